-- Index by index.
use Prim.Native.Nat.{◌-◌}
use borrow.Author.Rules.{rules}
use mathlib.Core.Bool.{true}
use mathlib.Core.Path.{◌∙◌, refl}
use native.Mathlib.Omega.{arith}
use Rattle.sample_alleles.proofs.Places.{Unput, all_put, all_unput, next_unput, put_all}
use Rattle.sample_alleles.proofs.put_absent.Goals as goal

pub loop-i-init : goal.loop-i-init
loop-i-init c = all_unput _ _ _ _

pub overflow_add-i : goal.overflow_add-i
overflow_add-i c = omega (arith, c.loop-i-test.true, c.ranges.count)

pub overflow_step-i : goal.overflow_step-i
overflow_step-i c = omega (arith, c.loop-i-test.true, c.ranges.count)

pub loop-i-smaller : goal.loop-i-smaller
loop-i-smaller c = omega (arith, c.loop-i-test.true)

pub loop-i-preserved : goal.loop-i-preserved
loop-i-preserved c = next_unput _ _ _ _ (c.loop-i.invariant) {wanted = true} (c.loop-i-test.true) refl c.store.ensures c.store.auto.out

pub shape_of-map : goal.shape_of-map
shape_of-map c = c.loop-i.invariant.long

pub returns : goal.returns
returns c = rw c.get-byte.ensures at (all_put _ _ _ _ c.loop-i.invariant c.loop-i-test.false ∙ put_all _ _ _)
