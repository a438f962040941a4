-- Test by test.
use borrow.Author.Rules.{rules}
use borrow.Author.Tests.{eq-eqb, eqb-false, eqb-true}
use mathlib.Core.Bool.{not}
use Prim.Native.Nat.{◌-◌}
use mathlib.Core.Path.{◌∙◌, ◌≡◌, ap, sym}
use native.Mathlib.Omega.{arith}
use Rattle.coalescing.proofs.Touching.{at_zero, not_touching, other_ref, same_ref}
use Rattle.coalescing.specs.Held.{joins_pending}
use Rattle.laws.proofs.Tests.{clash}
use Rattle.coalescing.proofs.joins.Goals as goal
use Rattle.coalescing.proofs.joins.Goals.{then-first-ne0, else-first-ne0, then-first-get, else-first-get}

pub returns-in_default : goal.returns-in_default
unfolding joins_pending
returns-in_default c = rw c.in_default.is

pub returns-then-block-letter : goal.returns-then-block-letter
returns-then-block-letter c = elim c.if-first-get.branch [
  | then-first-get w ↦ elim c.if-first-ne0.branch [
    | then-first-ne0 v ↦
        let touches = eqb-true _ _ (sym v.value-is ∙ w.if-first-get.true) in
        let agrees = eqb-true _ _ (sym w.value-is ∙ c.if-block-letter.true) in
        c.samples_pl_ad_eq.ensures ∙ rw c.in-Some.is (same_ref _ _ _ _ _ (λ e. omega arith) (omega arith) agrees)
    | else-first-ne0 v ↦ clash w.if-first-get.true (v.value-is ∙ ap not (eq-eqb _ _ (omega arith)))
  ]
  | else-first-get w ↦ clash c.if-block-letter.true (w.value-is ∙ w.if-first-get.false)
]

pub returns-else-block-letter : goal.returns-else-block-letter
returns-else-block-letter c = c.if-block-letter.false ∙ rw c.in-Some.is (elim c.if-first-get.branch [
  | then-first-get w ↦ other_ref _ _ _ _ _ (eqb-false _ _ (sym w.value-is ∙ c.if-block-letter.false))
  | else-first-get w ↦ elim c.if-first-ne0.branch [
    | then-first-ne0 v ↦
        let apart : (c.get-first.result - 1 ≡ v.get.result → ⊥) = eqb-false _ _ (sym v.value-is ∙ w.if-first-get.false) in
        not_touching _ _ _ _ _ (λ e. apart (omega arith))
    | else-first-ne0 v ↦ at_zero _ _ _ _ _ (omega arith)
  ]
])
