-- The values from i on are left to store.
use Prim.Native.Nat.{◌-◌}
use borrow.Author.Rules.{rules}
use lib.ListN.{drop, get_or}
use mathlib.Core.List.{map}
use mathlib.Core.Path.{ap, refl}
use native.Mathlib.Omega.{arith}
use Rattle.called_genotypes.proofs.Folded.{least_below}
use Rattle.definitions.specs.CalledGenotypes.{normalized_pl}
use Rattle.definitions.specs.Genotypes.{least}
use Rattle.genotype_values.proofs.Storing.{Unstored, all_left, all_stored, next_stored, unstored_length}
use Rattle.called_genotypes.proofs.normalize_pl.Goals as goal

pub loop-i-init : goal.loop-i-init
unfolding normalized_pl
loop-i-init c = all_left refl

pub overflow_sub-x : goal.overflow_sub-x
overflow_sub-x c = omega (arith, c.least_pl-least.ensures, least_below (c.args.pl.now) (c.loop-i.i) (c.loop-i-test.true))

pub loop-i-preserved : goal.loop-i-preserved
loop-i-preserved c = let pl = c.args.pl.now in
    next_stored (λ p. p - least pl) pl 0 (c.loop-i-test.true) (ap (λ k. get_or pl (c.loop-i.i) 0 - k) (c.least_pl-least.ensures)) (c.store.ensures) (c.loop-i.invariant)

pub shape_of-out : goal.shape_of-out
shape_of-out c = unstored_length (c.loop-i.invariant)

pub returns : goal.returns
returns c = let pl = c.args.pl.now in all_stored (λ p. p - least pl) pl (c.loop-i-test.false) (c.loop-i.invariant)
