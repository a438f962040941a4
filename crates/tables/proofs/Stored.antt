-- Numbers stored in a table from an offset on, and what stands in the rows with the first numbers.
use Prim.Native.Nat.{◌+◌, ◌-◌, ◌<◌, ◌≤◌, suc, zero, ℕ}
use lib.ListN.{drop, get_or, length, length-map, length-set, set}
use lib.Seq.{drop-set-lt, ext_get_or, get_or-set_other, get_or-set_same, length-sets, sets}
use mathlib.Core.List.{List, [], ◌++◌, ◌∷◌, map, map-append}
use mathlib.Core.Path.{◌∙◌, ◌≡◌, ap, refl, sym}
use native.Mathlib.Nat.{add-zero, sub-zero, zero-add}
use native.Mathlib.Numerals.{add-one}
use native.Mathlib.Omega.{arith}
use Rattle.definitions.specs.Lists.{numbers_from}
use Rattle.laws.proofs.Members.{length_numbers, numbers_append}

-- ---- sets

pub get_before : (vs l : List ℕ) (at i : ℕ) → i < at → get_or (sets l at vs) i 0 ≡ get_or l i 0
get_before [] l at i h = refl
get_before (v ∷ vs) l at i h = get_before vs (set l at v) (suc at) i (omega arith) ∙ get_or-set_other l at i v 0 (λ e. absurd (omega arith))

pub get_behind : (vs l : List ℕ) (at i : ℕ) → at + length vs ≤ i → get_or (sets l at vs) i 0 ≡ get_or l i 0
get_behind [] l at i h = refl
get_behind (v ∷ vs) l at i h = get_behind vs (set l at v) (suc at) i (omega arith) ∙ get_or-set_other l at i v 0 (λ e. absurd (omega arith))

pub get_here : (vs l : List ℕ) (at k : ℕ) → k < length vs → at + length vs ≤ length l → get_or (sets l at vs) (at + k) 0 ≡ get_or vs k 0
get_here [] l at k h r = absurd (omega arith)
get_here (v ∷ vs) l at zero h r =
    rw (add-zero at) (get_before vs (set l at v) (suc at) at (omega arith) ∙ get_or-set_same l at v 0 (omega arith))
get_here (v ∷ vs) l at (suc k) h r =
    let there : at + suc k ≡ suc at + k = omega arith in
    rw there (get_here vs (set l at v) (suc at) k (omega arith) (omega (arith, length-sets l at (v ∷ []))))

pub drop_sets : (vs l : List ℕ) (at n : ℕ) → at + length vs ≤ n → drop n (sets l at vs) ≡ drop n l
drop_sets [] l at n h = refl
drop_sets (v ∷ vs) l at n h = drop_sets vs (set l at v) (suc at) n (omega arith) ∙ drop-set-lt n l at v (omega arith)

-- ---- numbers_from

pub map_same : {A : Type 0} (f g : ℕ → A) (a n : ℕ) → ((i : ℕ) → i < a + n → f i ≡ g i) → map f (numbers_from a n) ≡ map g (numbers_from a n)
unfolding numbers_from
map_same f g a zero h = refl
map_same f g a (suc n) h = rw (h a (omega arith), map_same f g (suc a) n (λ i k. h i (omega arith)))

pub one_more : {A : Type 0} (f : ℕ → A) (n : ℕ) → map f (numbers_from 0 (n + 1)) ≡ map f (numbers_from 0 n) ++ (f n ∷ [])
one_more f n = ap (map f) (numbers_append 0 n 1) ∙ map-append f (numbers_from 0 n) (numbers_from (0 + n) 1) ∙ rw (zero-add n) last
  where
    last : map f (numbers_from 0 n) ++ map f (numbers_from n 1) ≡ map f (numbers_from 0 n) ++ (f n ∷ [])
    last = unfold numbers_from in refl

pub map_numbers : {A : Type 0} (f : ℕ → A) (d : A) (a n j : ℕ) → j < n → get_or (map f (numbers_from a n)) j d ≡ f (a + j)
unfolding numbers_from
map_numbers f d a zero j h = absurd (omega arith)
map_numbers f d a (suc n) zero h = ap f (sym (add-zero a))
map_numbers f d a (suc n) (suc j) h = map_numbers f d (suc a) n j (omega arith) ∙ ap f (omega arith)

-- a list is its numbers one by one
pub numbers_all : (l : List ℕ) → map (λ i. get_or l i 0) (numbers_from 0 (length l)) ≡ l
numbers_all l =
    let n = length-map (numbers_from 0 (length l)) (λ i. get_or l i 0) ∙ length_numbers 0 (length l) in
    ext_get_or 0 (map (λ i. get_or l i 0) (numbers_from 0 (length l))) l n
    (λ i h. map_numbers (λ i. get_or l i 0) 0 0 (length l) i (omega arith) ∙ rw zero-add)

-- the rows from here on: the next and those behind it, or none
module _ {A : Type 0} (f : ℕ → A) (n i : ℕ) where
  pub rows_next : i < n → map f (numbers_from i (n - i)) ≡ f i ∷ map f (numbers_from (i + 1) (n - (i + 1)))
  unfolding numbers_from
  rows_next h = let e : n - i ≡ suc (n - (i + 1)) = omega arith in rw (e, add-one i)

  pub rows_end : n ≤ i → map f (numbers_from i (n - i)) ≡ []
  unfolding numbers_from
  rows_end h = let e : n - i ≡ 0 = omega arith in rw e

-- ---- a loop that stores a number at each place from one on

module _ (l₀ : List ℕ) (base : ℕ) (f : ℕ → ℕ) (n : ℕ) where
  -- storing those from here on comes to storing all
  pub record Storing (l : List ℕ) (i : ℕ) : Type 0 where
    pub long : length l ≡ length l₀
    pub same : sets l (base + i) (map f (numbers_from i (n - i))) ≡ sets l₀ base (map f (numbers_from 0 n))

  pub storing_start : Storing l₀ 0
  storing_start = record { long = refl; same = rw (add-zero base, sub-zero n) }

  pub storing_turn : (l after : List ℕ) (i : ℕ) {place v : ℕ} → Storing l i → i < n → place ≡ base + i → v ≡ f i → after ≡ set l place v
      → Storing after (i + 1)
  storing_turn l after i {place} {v} inv h p e stored = rw (stored, p, e) (record {
    long = length-set l (base + i) (f i) ∙ inv.long;
    same = let there : suc (base + i) ≡ base + (i + 1) = omega arith in rw (← there) (rw (rows_next f n i h) at inv.same);
  })

  pub storing_end : (l : List ℕ) (i : ℕ) → Storing l i → n ≤ i → l ≡ sets l₀ base (map f (numbers_from 0 n))
  storing_end l i inv h = rw (rows_end f n i h) at inv.same
