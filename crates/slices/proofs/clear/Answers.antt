-- Each value is zero, and there are as many.
use lib.ListN.{get_or, length}
use mathlib.Core.List.{List, [], ◌∷◌, map}
use mathlib.Core.Path.{◌≡◌, refl}
use native.Mathlib.Omega.{arith}
use Prim.Native.Nat.{suc, zero, ◌<◌, ℕ}
use Rattle.slices.proofs.clear.Goals as goal

all_zero : {A : Type 0} (z : A) (xs ys : List A) → length xs ≡ length ys → ((k : ℕ) (d : A) → k < length xs → get_or xs k d ≡ z) → xs ≡ map (λ _. z) ys
all_zero z [] [] e h = refl
all_zero z [] (y ∷ ys) e h = absurd (omega (arith, e))
all_zero z (x ∷ xs) [] e h = absurd (omega (arith, e))
all_zero z (x ∷ xs) (y ∷ ys) e h =
    let first : x ≡ z = h 0 z (omega arith) in
    let rest = all_zero z xs ys (omega (arith, e)) (λ k d less. h (suc k) d (omega (arith, less))) in
    rw (first, rest)

pub returns : goal.returns
returns g c = all_zero _ _ _ c.loop-value.auto.value-items (λ k d less. c.loop-value.invariant k d (omega (arith, less, c.loop-value-test.false)))
