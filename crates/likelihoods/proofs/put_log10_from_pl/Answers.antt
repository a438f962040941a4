-- The values from i on are left to store.
use Prim.Native.Nat.{◌-◌}
use borrow.Author.Rules.{rules}
use lib.ListN.{drop}
use mathlib.Core.List.{map}
use mathlib.Core.Path.{refl}
use Rattle.definitions.specs.Likelihoods.{log10_from_pl}
use Rattle.genotype_values.proofs.Storing.{Unstored, all_left, all_stored, next_stored, unstored_length}
use Rattle.likelihoods.proofs.put_log10_from_pl.Goals as goal

pub loop-i-init : goal.loop-i-init
loop-i-init c = all_left refl

pub loop-i-preserved : goal.loop-i-preserved
loop-i-preserved c = next_stored log10_from_pl c.args.pl.now 0 c.loop-i-test.true
    c.log10_from_pl-x.ensures.rounded c.store.ensures c.loop-i.invariant

pub shape_of-out : goal.shape_of-out
shape_of-out c = unstored_length c.loop-i.invariant

pub returns : goal.returns
returns c = all_stored log10_from_pl c.args.pl.now c.loop-i-test.false c.loop-i.invariant
