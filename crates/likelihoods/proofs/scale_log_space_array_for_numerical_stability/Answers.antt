-- The values from i on are left to store.
use Prim.Native.Nat.{◌-◌}
use borrow.Author.Rules.{rules}
use lib.Ieee.{binary64, nan, sub}
use lib.ListN.{drop}
use mathlib.Core.List.{map}
use mathlib.Core.Path.{◌≡◌, sym}
use native.Mathlib.Omega.{arith}
use Rattle.definitions.specs.AlleleSubset.{greatest, less_greatest}
use Rattle.genotype_values.proofs.Storing.{Unstored, all_left, all_stored, next_stored, unstored_length}
use Rattle.likelihoods.proofs.Greatest.{less_each, less_none}
use Rattle.likelihoods.proofs.scale_log_space_array_for_numerical_stability.Goals as goal

pub returns-then-values-eq0 : goal.returns-then-values-eq0
returns-then-values-eq0 c = rw (less_none c.args.values.now c.if-values-eq0.true)

pub greatest_of-best-requires : goal.greatest_of-best-requires
greatest_of-best-requires c = omega (arith, c.if-values-eq0.false)

pub loop-i-init : goal.loop-i-init
loop-i-init c = (c.greatest_of-best.ensures, all_left (sym (less_each c.args.values.now)))

pub loop-i-preserved : goal.loop-i-preserved
loop-i-preserved c = let values = c.args.values.now in (
  c.loop-i.invariant.0,
  next_stored (λ x. sub binary64 x (greatest values)) values nan c.loop-i-test.true
      (rw c.loop-i.invariant.0) c.store.ensures c.loop-i.invariant.1,
)

pub shape_of-out : goal.shape_of-out
shape_of-out c = unstored_length (c.loop-i.invariant.1)

pub returns : goal.returns
returns c = let values = c.args.values.now in all_stored (λ x. sub binary64 x (greatest values)) values c.loop-i-test.false c.loop-i.invariant.1
