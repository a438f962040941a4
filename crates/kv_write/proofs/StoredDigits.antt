-- How many digits a number has, and its digits stored from the last to the first.
use Prim.Native.Nat.{◌%◌, ◌+◌, ◌-◌, ◌/◌, ◌<◌, ◌^◌, ◌≤◌, suc, zero, ℕ}
use borrow.Author.Tests.{le-leb, lt-leb}
use lib.Dec.{leb}
use lib.ListN.{drop, length, length-append, length-set, set}
use lib.Seq.{append_snoc, drop-cons, drop-length, drop-set-lt, get_or-set_same, set_split}
use mathlib.Core.Bool.{cond}
use mathlib.Core.List.{List, [], ◌++◌, ◌∷◌, append-nil}
use mathlib.Core.Path.{◌∙◌, ◌≡◌, refl, sym}
use native.Mathlib.Decide.{dec_lt}
use native.Mathlib.Nat.{one-le-pow}
use native.Mathlib.Omega.{arith}
use Rattle.definitions.specs.Numbers.{decimal}
use Rattle.laws.proofs.Decimals.{decimal_length, decimal_long, decimal_short}

pub length_short : (n : ℕ) → n < 10 → 1 ≡ length (decimal n)
length_short n h = rw (decimal_short n h)

length_long : (n : ℕ) → 10 ≤ n → length (decimal n) ≡ length (decimal (n / 10)) + 1
length_long n h = rw (decimal_long n h, length-append)

pub some_digit : (n : ℕ) → 0 < length (decimal n)
some_digit n = go (dec_lt n 10)
  where
    go : Dec (n < 10) → 0 < length (decimal n)
    go (yes h) = omega (arith, length_short n h)
    go (no h) = omega (arith, length_long n (omega arith))

-- a number from a power of ten to the next has one digit more than the first of them has zeros
length_between : (k n : ℕ) → 10 ^ k ≤ n → n < 10 ^ suc k → suc k ≡ length (decimal n)
length_between zero n l h = length_short n h
length_between (suc k) n l h = omega (arith, length_long n (omega (arith, one-le-pow k 10 (omega arith))), length_between k (n / 10) (omega arith) (omega arith))

-- 1 for each power of ten, from 10 to the k-th, that a number reaches
powers_reached : ℕ → ℕ → ℕ
powers_reached zero n = 0
powers_reached (suc k) n = powers_reached k n + cond (leb (10 ^ suc k) n) 1 0

all_reached : (k n : ℕ) → 10 ^ k ≤ n → powers_reached k n ≡ k
unfolding powers_reached
all_reached zero n h = refl
all_reached (suc k) n h = rw (le-leb (10 ^ suc k) n h) (omega (arith, all_reached k n (omega (arith, one-le-pow k 10 (omega arith)))))

-- a number has one digit more than it reaches powers of ten
length_reached : (k n : ℕ) → n < 10 ^ suc k → 1 + powers_reached k n ≡ length (decimal n)
unfolding powers_reached
length_reached zero n h = length_short n h
length_reached (suc k) n h = go (dec_lt n (10 ^ suc k)) (length_reached k n)
  where
    go : Dec (n < 10 ^ suc k) → (n < 10 ^ suc k → 1 + powers_reached k n ≡ length (decimal n)) → 1 + powers_reached (suc k) n ≡ length (decimal n)
    go (yes l) r = rw (lt-leb (10 ^ suc k) n l) (omega (arith, r l))
    go (no l) r = omega (arith, all_reached (suc k) n (omega arith), length_between (suc k) n (omega arith) h)

-- below 10000, by three tests
pub length_few : (n : ℕ) {a b c : ℕ} → n < 10000 → a ≡ cond (leb 10 n) 1 0 → b ≡ cond (leb 100 n) 1 0 → c ≡ cond (leb 1000 n) 1 0
    → 1 + a + b + c ≡ length (decimal n)
unfolding powers_reached
length_few n h ea eb ec = rw (ea, eb, ec) (omega (arith, length_reached 3 n h))

-- from there on, by five
pub length_many : (n : ℕ) {a b c d e : ℕ} → 10000 ≤ n → n < 2 ^ 32 → a ≡ cond (leb 100000 n) 1 0 → b ≡ cond (leb 1000000 n) 1 0
    → c ≡ cond (leb 10000000 n) 1 0 → d ≡ cond (leb 100000000 n) 1 0 → e ≡ cond (leb 1000000000 n) 1 0
    → 5 + a + b + c + d + e ≡ length (decimal n)
unfolding powers_reached
length_many n l h ea eb ec ed ee =
    rw (ea, eb, ec, ed, ee) (omega (arith, all_reached 4 n l, length_reached 9 n (omega arith)))

-- a u32 has at most ten digits
pub length_most : (n : ℕ) → n < 2 ^ 32 → length (decimal n) ≤ 10
length_most n h = decimal_length 9 n (omega arith)

-- the digits from a place on are stored, and those of `left` are not yet
pub record Unstored (n : ℕ) (to : List ℕ) (place left : ℕ) : Type 0 where
  pub size : length to ≡ length (decimal n)
  pub at : place ≡ length (decimal left)
  pub within : place ≤ length to
  pub same : decimal left ++ drop place to ≡ decimal n

pub none_stored : (n : ℕ) (to : List ℕ) → length to ≡ length (decimal n) → Unstored n to (length to) n
none_stored n to e = record { size = e; at = e; within = omega arith; same = rw (drop-length to, append-nil) }

stored_there : (to : List ℕ) (i d : ℕ) → i < length to → drop i (set to i d) ≡ d ∷ drop (suc i) to
stored_there to i d h =
    drop-cons (set to i d) i 0 (rw (length-set to i d) h) ∙ rw (get_or-set_same to i d 0 h, drop-set-lt (suc i) to i d (omega arith))

pub digit_stored : {n place left : ℕ} {to : List ℕ} → 10 ≤ left → Unstored n to place left
    → Unstored n (set to (place - 1) (48 + left % 10)) (place - 1) (left / 10)
digit_stored {n} {place} {left} {to} h u =
    let long = length_long left h in
    let i : place ≡ suc (place - 1) = omega (arith, u.at) in
    record {
      size = length-set to (place - 1) (48 + left % 10) ∙ u.size;
      at = omega (arith, u.at);
      within = rw (length-set to (place - 1) (48 + left % 10)) (omega (arith, u.within));
      same =
          rw (stored_there to (place - 1) (48 + left % 10) (omega (arith, u.within, u.at)), ← i)
          (sym (append_snoc (decimal (left / 10)) (48 + left % 10) (drop place to)) ∙ rw (← decimal_long left h) u.same);
    }

pub first_stored : {n place left : ℕ} {to : List ℕ} → left < 10 → Unstored n to place left → set to 0 (48 + left) ≡ decimal n
first_stored {n} {place} {left} {to} h u =
    let one : place ≡ 1 = u.at ∙ sym (length_short left h) in
    set_split to 0 (48 + left) (omega (arith, u.within)) ∙ rw (decimal_short left h, one) at u.same
