-- Numbers of one or two digits, and of three or four: a leading zero stands where the next digit is stored over it.
use Prim.Native.Nat.{◌%◌, ◌+◌, ◌/◌, ◌<◌, ◌≤◌, suc, ℕ}
use borrow.Author.Tests.{le-leb, lt-leb}
use lib.Dec.{leb}
use lib.ListN.{set}
use lib.Seq.{set-set}
use mathlib.Core.Bool.{cond}
use mathlib.Core.List.{List, [], ◌∷◌}
use mathlib.Core.Path.{◌∙◌, ◌≡◌}
use native.Mathlib.Decide.{dec_lt}
use native.Mathlib.Nat.{add-zero}
use native.Mathlib.Numerals.{add-one}
use native.Mathlib.Omega.{arith}
use Rattle.definitions.specs.Numbers.{decimal}
use Rattle.laws.proofs.Decimals.{decimal_long, decimal_short}
use Rattle.kv_write.specs.Laid.{Laid}

-- the digits, by how many there are

two_digits : (n : ℕ) → 10 ≤ n → n < 100 → decimal n ≡ (48 + n / 10) ∷ (48 + n % 10) ∷ []
two_digits n l h = rw (decimal_long n l, decimal_short (n / 10) (omega arith))

three_digits : (n : ℕ) → 100 ≤ n → n < 1000 → decimal n ≡ (48 + n / 10 / 10) ∷ (48 + n / 10 % 10) ∷ (48 + n % 10) ∷ []
three_digits n l h = rw (decimal_long n (omega arith), two_digits (n / 10) (omega arith) (omega arith))

four_digits : (n : ℕ) → 1000 ≤ n → n < 10000
    → decimal n ≡ (48 + n / 10 / 10 / 10) ∷ (48 + n / 10 / 10 % 10) ∷ (48 + n / 10 % 10) ∷ (48 + n % 10) ∷ []
four_digits n l h = rw (decimal_long n (omega arith), three_digits (n / 10) (omega arith) (omega arith))

-- one or two are stored
pub one_or_two_laid : (d : List ℕ) (at n : ℕ) {a : ℕ} → n < 100 → a ≡ cond (leb 10 n) 1 0
    → Laid d at (decimal n) (set (set d at (48 + n / 10)) (at + a) (48 + n % 10)) (at + a + 1)
one_or_two_laid d at n {a} h e = go (dec_lt n 10)
  where
    go : Dec (n < 10) → Laid d at (decimal n) (set (set d at (48 + n / 10)) (at + a) (48 + n % 10)) (at + a + 1)
    go (yes u) =
        let a0 : a ≡ 0 = e ∙ rw (lt-leb 10 n u) in
        let same : n % 10 ≡ n = omega arith in
        rw (a0, decimal_short n u, same) (record { next = omega arith; laid = simp (add-zero, set-set) })
    go (no l) =
        let a1 : a ≡ 1 = e ∙ rw (le-leb 10 n (omega arith)) in
        rw (a1, two_digits n (omega arith) h) (record { next = omega arith; laid = simp add-one })

-- three or four are stored, two by two
abbrev stored_pairs : List ℕ → ℕ → ℕ → ℕ → ℕ → List ℕ
stored_pairs d at second high low =
    set (set (set (set d at (48 + high / 10)) second (48 + high % 10)) (second + 1) (48 + low / 10)) (second + 2) (48 + low % 10)

pub three_or_four_laid : (d : List ℕ) (at n : ℕ) {a : ℕ} → 100 ≤ n → n < 10000 → a ≡ cond (leb 1000 n) 1 0
    → Laid d at (decimal n) (stored_pairs d at (at + a) (n / 100) (n % 100)) (at + a + 3)
three_or_four_laid d at n {a} l h e = go (dec_lt n 1000)
  where
    third : n / 10 % 10 ≡ n % 100 / 10
    third = omega arith

    fourth : n % 10 ≡ n % 100 % 10
    fourth = omega arith

    behind : at + 2 ≡ suc (suc at)
    behind = omega arith

    go : Dec (n < 1000) → Laid d at (decimal n) (stored_pairs d at (at + a) (n / 100) (n % 100)) (at + a + 3)
    go (yes u) =
        let a0 : a ≡ 0 = e ∙ rw (lt-leb 1000 n u) in
        let second : n / 10 / 10 ≡ n / 100 % 10 = omega arith in
        rw (a0, three_digits n l u, second, third, fourth) (record { next = omega arith; laid = simp (add-zero, behind, add-one, set-set) })
    go (no m) =
        let a1 : a ≡ 1 = e ∙ rw (le-leb 1000 n (omega arith)) in
        let first : n / 10 / 10 / 10 ≡ n / 100 / 10 = omega arith in
        let second : n / 10 / 10 % 10 ≡ n / 100 % 10 = omega arith in
        let last : suc at + 2 ≡ suc (suc (suc at)) = omega arith in
        rw (a1, four_digits n (omega arith) h, first, second, third, fourth) (record { next = omega arith; laid = simp (last, add-one) })
