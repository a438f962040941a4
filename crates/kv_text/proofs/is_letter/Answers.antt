-- By cases, over the ten bytes that are letters when raised.
use Prim.Native.Nat.{ℕ}
use borrow.Author.Tests.{ne_eqb}
use lib.Dec.{eqb}
use mathlib.Core.Bool.{false, true}
use mathlib.Core.Logic.{◌⊎◌, inl, inr}
use mathlib.Core.Path.{◌∙◌, ◌≡◌, sym}
use Rattle.definitions.specs.Alleles.{capital, is_letter}
use Rattle.definitions.specs.Bytes.{text}
use Rattle.definitions.specs.Lists.{any_of}
use Rattle.laws.proofs.Capitals.{either_case}
use Rattle.kv_text.proofs.is_letter.Goals as goal

abbrev SmallOf : ℕ → Type 0
SmallOf b = (b ≡ 97) ⊎ ((b ≡ 99) ⊎ ((b ≡ 103) ⊎ ((b ≡ 110) ⊎ (b ≡ 116))))

abbrev OneOf : ℕ → Type 0
OneOf b = (b ≡ 65) ⊎ ((b ≡ 67) ⊎ ((b ≡ 71) ⊎ ((b ≡ 78) ⊎ ((b ≡ 84) ⊎ SmallOf b))))

small : (b : ℕ) → SmallOf b → true ≡ is_letter (capital b)
unfolding is_letter capital any_of text
small b (inl e) = rw e
small b (inr (inl e)) = rw e
small b (inr (inr (inl e))) = rw e
small b (inr (inr (inr (inl e)))) = rw e
small b (inr (inr (inr (inr e)))) = rw e

letter : (b : ℕ) → OneOf b → true ≡ is_letter (capital b)
unfolding is_letter capital any_of text
letter b (inl e) = rw e
letter b (inr (inl e)) = rw e
letter b (inr (inr (inl e))) = rw e
letter b (inr (inr (inr (inl e)))) = rw e
letter b (inr (inr (inr (inr (inl e))))) = rw e
letter b (inr (inr (inr (inr (inr e))))) = small b e

none_of : (b : ℕ) → (OneOf b → ⊥) → false ≡ any_of (eqb b) (text "ACGTNacgtn")
unfolding any_of text
none_of b n =
    simp (
      ne_eqb b 65 (λ e. n (inl e)),
      ne_eqb b 67 (λ e. n (inr (inl e))),
      ne_eqb b 71 (λ e. n (inr (inr (inl e)))),
      ne_eqb b 78 (λ e. n (inr (inr (inr (inl e))))),
      ne_eqb b 84 (λ e. n (inr (inr (inr (inr (inl e)))))),
      ne_eqb b 97 (λ e. n (inr (inr (inr (inr (inr (inl e))))))),
      ne_eqb b 99 (λ e. n (inr (inr (inr (inr (inr (inr (inl e)))))))),
      ne_eqb b 103 (λ e. n (inr (inr (inr (inr (inr (inr (inr (inl e))))))))),
      ne_eqb b 110 (λ e. n (inr (inr (inr (inr (inr (inr (inr (inr (inl e)))))))))),
      ne_eqb b 116 (λ e. n (inr (inr (inr (inr (inr (inr (inr (inr (inr e)))))))))),
    )

pub returns-in-65 : goal.returns-in-65
returns-in-65 c = letter _ c.in-65.is

pub returns-in_default : goal.returns-in_default
returns-in_default c = none_of _ c.in_default.in_default-own.rest.1 ∙ sym (either_case _)
