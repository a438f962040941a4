-- The loop's invariant: the lines of the samples from this one on are left.
use Prim.Native.Nat.{◌-◌}
use borrow.Author.Rules.{rules}
use lib.ListN.{drop}
use mathlib.Core.List.{map}
use Rattle.definitions.specs.Alleles.{capital}
use Rattle.definitions.specs.Printed.{printed_sample_data}
use Rattle.kv_write.proofs.Laying.{Left, done, left_length, recast, room, several, start}
use Rattle.laws.proofs.Every.{every_at}
use Rattle.record_lines.proofs.OwnSamples.{own_next, own_none}
use Rattle.record_lines.specs.Samples.{printed_own}
use Rattle.record_lines.proofs.put_own_samples.Given as goal

abbrev pub invariant-loop-site : goal.invariant-loop-site
invariant-loop-site l = let printed = printed_own l.s l.rows l.position.0 (map capital l.reference) l.alts in
    Left l.initial.out l.at (printed l.own) l.out l.next (printed (drop l.site-index l.own))
