-- The loop's invariant: the lines of the samples from this one on are left.
use Prim.Native.Nat.{◌-◌}
use borrow.Author.Rules.{rules}
use lib.ListN.{drop}
use mathlib.Core.List.{map}
use Rattle.definitions.specs.Alleles.{capital}
use Rattle.definitions.specs.Printed.{printed_sample_data}
use Rattle.kv_write.proofs.Laying.{Left, done, left_length, recast, room, several, start}
use Rattle.laws.proofs.Every.{every_at}
use Rattle.record_lines.proofs.OwnSamples.{own_next, own_none}
use Rattle.record_lines.specs.Samples.{printed_own}
use Rattle.record_lines.proofs.put_own_samples.Goals as goal

pub loop-site-init : goal.loop-site-init
loop-site-init c = start ((c.requires.0.fits))

pub put_sample-next-requires : goal.put_sample-next-requires
put_sample-next-requires c = (record { sound = every_at _ _ ((c.loop-site-test.true)) ((c.requires.0.sound)); few = (c.requires.0.few); fits = room (printed_sample_data _) _ (recast (own_next _ _ _ _ _ _ _ ((c.loop-site-test.true))) ((c.loop-site.invariant))) }, c.requires.1)

pub loop-site-preserved : goal.loop-site-preserved
loop-site-preserved c = several ((c.put_sample-next.ensures)) (recast (own_next _ _ _ _ _ _ _ ((c.loop-site-test.true))) ((c.loop-site.invariant)))

pub shape_of-out : goal.shape_of-out
shape_of-out c = left_length ((c.loop-site.invariant))

pub returns : goal.returns
returns c = done (recast (own_none _ _ _ _ _ _ _ ((c.loop-site-test.false))) ((c.loop-site.invariant)))
