-- By cases.
use Prim.Native.Nat.{◌<◌, ◌≤◌, ℕ}
use borrow.Author.Tests.{eq-eqb, le-leb, lt-leb, ne_eqb}
use mathlib.Core.Bool.{Bool, and-false, false}
use mathlib.Core.Logic.{◌⊎◌, inl, inr}
use mathlib.Core.Path.{◌∙◌, ◌≡◌, sym}
use Rattle.definitions.specs.Bytes.{comma}
use Rattle.definitions.specs.Numbers.{is_name_byte}
use Rattle.kv_text.proofs.is_name_byte.Goals as goal

other : (b : ℕ) → ((33 ≤ b) × (b ≤ 126) × (b ≡ 61)) ⊎ (((33 ≤ b) × (126 < b)) ⊎ (b < 33)) → is_name_byte b ≡ false
unfolding is_name_byte
other b (inl h) = simp (eq-eqb _ _ h.2, and-false)
other b (inr (inl h)) = simp (lt-leb _ _ h.1, and-false)
other b (inr (inr h)) = simp (lt-leb _ _ h)

told : {t r : Bool} → t ≡ false → r ≡ false → t ≡ r
told p q = p ∙ sym q

pub returns-then-b-ne61 : goal.returns-then-b-ne61
unfolding is_name_byte comma
returns-then-b-ne61 c =
    let h = c.if-b-ne61.true in
    simp (le-leb _ _ h.0, le-leb _ _ h.1, ne_eqb _ _ h.2)

pub returns-else-b-ne61 : goal.returns-else-b-ne61
returns-else-b-ne61 c = told (cc) (other c.args.b c.if-b-ne61.either)
