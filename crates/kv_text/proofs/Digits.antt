-- A number digit by digit: what it is by its first digit, and by the number so far and the bytes left.
use Prim.Native.Nat.{◌*◌, ◌+◌, ◌-◌, ◌<◌, ◌≤◌, ℕ}
use borrow.Author.Tests.{le-leb, leb-true, lt-leb, ne_eqb}
use lib.Dec.{leb}
use mathlib.Core.Bool.{◌&&◌, and-false, and-true, false, true}
use mathlib.Core.List.{List, [], ◌∷◌, foldl}
use mathlib.Core.Logic.{◌≢◌}
use mathlib.Core.Option.{Option, none, some}
use mathlib.Core.Path.{◌≡◌, ap, refl}
use native.Mathlib.Omega.{arith}
use Rattle.definitions.specs.Lists.{all_of, only_if}
use Rattle.definitions.specs.Numbers.{digits_value, is_digit, max_number, no_leading_zero, number}
use Rattle.laws.proofs.Decimals.{Digit}
use Rattle.laws.proofs.Tests.{both_of}

-- a further digit
step : ℕ → ℕ → ℕ
step n b = n * 10 + (b - 48)

-- the number n so far, with these bytes left
pub rest_from : ℕ → List ℕ → Option ℕ
rest_from n t = only_if (all_of is_digit t && leb (foldl step n t) max_number) (foldl step n t)

-- digits only make a number greater
grows : (t : List ℕ) (n : ℕ) → n ≤ foldl step n t
unfolding step
grows [] n = omega arith
grows (b ∷ t) n = omega (arith, grows t (n * 10 + (b - 48)))

-- a digit as a byte
pub digit_is : (b : ℕ) → is_digit b ≡ true → Digit b
unfolding is_digit
digit_is b h =
    let (l, u) = both_of (leb 48 b) (leb b 57) h in
    record { from = leb-true 48 b l; to = leb-true b 57 u }

-- ---- by the first byte

pub number_none : number [] ≡ none
unfolding number all_of no_leading_zero only_if
number_none = refl

pub number_zero : number (48 ∷ []) ≡ some 0
unfolding number all_of is_digit no_leading_zero digits_value max_number only_if
number_zero = refl

pub number_leading_zero : (c : ℕ) (t : List ℕ) → number (48 ∷ c ∷ t) ≡ none
unfolding number no_leading_zero only_if
number_leading_zero c t = simp and-false

pub number_other : (b : ℕ) (t : List ℕ) → is_digit b ≡ false → number (b ∷ t) ≡ none
unfolding number all_of only_if
number_other b t d = simp d

pub number_digit : (b : ℕ) (t : List ℕ) → is_digit b ≡ true → b ≢ 48 → number (b ∷ t) ≡ rest_from (b - 48) t
unfolding number all_of digits_value rest_from step no_leading_zero
number_digit b t d n = rw (leads t, value) (simp (d, and-true))
  where
    value : digits_value (b ∷ t) ≡ foldl step (b - 48) t
    value = let e : 0 * 10 + (b - 48) ≡ b - 48 = omega arith in ap (λ (n : ℕ). foldl step n t) e

    leads : (t : List ℕ) → no_leading_zero (b ∷ t) ≡ true
    leads [] = refl
    leads (c ∷ t) = rw (ne_eqb b 48 n)

-- ---- by the number so far

pub rest_none : (n : ℕ) → n ≤ 2147483647 → rest_from n [] ≡ some n
unfolding rest_from all_of only_if max_number
rest_none n h = simp (le-leb _ _ h)

module _ (n b : ℕ) (t : List ℕ) where
  pub rest_other : is_digit b ≡ false → rest_from n (b ∷ t) ≡ none
  unfolding rest_from all_of only_if
  rest_other d = simp d

  pub rest_too_great : 2147483647 < n * 10 + (b - 48) → rest_from n (b ∷ t) ≡ none
  unfolding rest_from all_of only_if step max_number
  rest_too_great h =
      let w : 2147483647 < foldl step (n * 10 + (b - 48)) t = omega (arith, grows t (n * 10 + (b - 48))) in
      simp (lt-leb _ _ w, and-false)

  pub rest_digit : is_digit b ≡ true → rest_from n (b ∷ t) ≡ rest_from (n * 10 + (b - 48)) t
  unfolding rest_from all_of step
  rest_digit d = simp d
