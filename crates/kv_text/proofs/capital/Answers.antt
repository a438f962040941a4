-- By cases.
use Prim.Native.Nat.{◌-◌, ◌≤◌, ℕ}
use borrow.Author.Tests.{ne_eqb}
use mathlib.Core.Bool.{false}
use mathlib.Core.Logic.{◌⊎◌, inl, inr}
use mathlib.Core.Path.{◌≡◌, sym}
use native.Mathlib.Omega.{arith}
use Rattle.definitions.specs.Alleles.{capital}
use Rattle.definitions.specs.Bytes.{text}
use Rattle.definitions.specs.Lists.{any_of}
use Rattle.laws.proofs.Capitals.{capital_other, is_small}
use Rattle.kv_text.proofs.capital.Goals as goal

abbrev OneOf : ℕ → Type 0
OneOf b = (b ≡ 97) ⊎ ((b ≡ 99) ⊎ ((b ≡ 103) ⊎ ((b ≡ 110) ⊎ (b ≡ 116))))

high : (b : ℕ) → OneOf b → 32 ≤ b
high b (inl e) = omega arith
high b (inr (inl e)) = omega arith
high b (inr (inr (inl e))) = omega arith
high b (inr (inr (inr (inl e)))) = omega arith
high b (inr (inr (inr (inr e)))) = omega arith

raised : (b : ℕ) → OneOf b → b - 32 ≡ capital b
unfolding capital any_of text
raised b (inl e) = rw e
raised b (inr (inl e)) = rw e
raised b (inr (inr (inl e))) = rw e
raised b (inr (inr (inr (inl e)))) = rw e
raised b (inr (inr (inr (inr e)))) = rw e

no-small : (b : ℕ) → (OneOf b → ⊥) → is_small b ≡ false
unfolding any_of text
no-small b n =
    simp (
      ne_eqb b 97 (λ e. n (inl e)),
      ne_eqb b 99 (λ e. n (inr (inl e))),
      ne_eqb b 103 (λ e. n (inr (inr (inl e)))),
      ne_eqb b 110 (λ e. n (inr (inr (inr (inl e))))),
      ne_eqb b 116 (λ e. n (inr (inr (inr (inr e))))),
    )

pub overflow_sub-result : goal.overflow_sub-result
overflow_sub-result c = omega (arith, high _ c.in-97.is)

pub returns-in-97 : goal.returns-in-97
returns-in-97 c = raised _ c.in-97.is

pub returns-in_default : goal.returns-in_default
returns-in_default c = sym (capital_other _ (no-small _ c.in_default.in_default-own.rest.1))
