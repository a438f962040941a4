-- The digits of a number, laid one after the other.
use Prim.Native.Nat.{◌%◌, ◌+◌, ◌/◌, ◌<◌, ◌^◌, ◌≤◌, ℕ}
use lib.ListN.{length, length-append}
use mathlib.Core.List.{List, [], ◌∷◌}
use native.Mathlib.Omega.{arith}
use Rattle.definitions.specs.Numbers.{decimal}
use Rattle.kv_write.proofs.Laying.{laid_append}
use Rattle.kv_write.specs.Laid.{Laid}
use Rattle.laws.proofs.Decimals.{decimal_length, decimal_long, decimal_short}

-- one digit
pub laid_short : (n : ℕ) {d d' : List ℕ} {at r : ℕ} → n < 10 → Laid d at ((48 + n) ∷ []) d' r → Laid d at (decimal n) d' r
laid_short n h p = rw (decimal_short n h) p

-- all digits but the last, and then the last
pub laid_long : (n : ℕ) {d d' d'' : List ℕ} {at next r : ℕ} → 10 ≤ n → Laid d at (decimal (n / 10)) d' next
    → Laid d' next ((48 + n % 10) ∷ []) d'' r → Laid d at (decimal n) d'' r
laid_long n h p q = rw (decimal_long n h) (laid_append p q)

-- what the two calls require
pub fits_short : (n at : ℕ) → n < 10 → at + length (decimal n) < 2 ^ 64 → at + 1 < 2 ^ 64
fits_short n at h k = rw (decimal_short n h) at k

pub fits_front : (n at : ℕ) → 10 ≤ n → at + length (decimal n) < 2 ^ 64 → at + length (decimal (n / 10)) + 1 < 2 ^ 64
fits_front n at h k = let k' = rw (decimal_long n h, length-append) at k in omega arith

-- a usize has at most 20 digits
pub length_most : (n : ℕ) → n < 2 ^ 64 → length (decimal n) ≤ 20
length_most n h = decimal_length 19 n (omega arith)
