-- A number stored for each index that passes a test: index by index, and over numbers that were stored before.
use Prim.Native.Nat.{◌+◌, ◌-◌, ◌<◌, ◌≤◌, suc, zero, ℕ}
use lib.ListN.{length, set}
use lib.Seq.{set_comm, set-set, sets}
use mathlib.Core.Bool.{Bool, cond, false, true}
use mathlib.Core.List.{List, [], ◌∷◌, map}
use mathlib.Core.Path.{◌∙◌, ◌≡◌, ap, refl}
use native.Mathlib.Nat.{sub-zero}
use native.Mathlib.Numerals.{add-one}
use native.Mathlib.Omega.{arith}
use Rattle.definitions.specs.Lists.{numbers_from}
use Rattle.sample_alleles.specs.Readings.{each_of, put_where}

-- ---- index by index

module _ (p : ℕ → Bool) (number count : ℕ) (before : List ℕ) where
  -- what is left from index i on comes to all
  pub record Unput (values : List ℕ) (i : ℕ) : Type 0 where
    pub long : length values ≡ length before
    pub same : put_where p number i (count - i) values ≡ put_where p number 0 count before

  pub all_unput : Unput before 0
  all_unput = record { long = refl; same = rw sub-zero }

  module _ {values : List ℕ} {i : ℕ} (u : Unput values i) where
    pub next_unput : {values' : List ℕ} {wanted : Bool} → i < count → wanted ≡ p i
        → values' ≡ cond wanted (set values (i + 1) number) values → length values' ≡ length values → Unput values' (i + 1)
    unfolding put_where
    next_unput h right stored k =
        let e : count - i ≡ suc (count - suc i) = omega arith in
        record { long = k ∙ u.long; same = rw (stored, right, add-one i) (rw e at u.same) }

    pub all_put : count ≤ i → values ≡ put_where p number 0 count before
    unfolding put_where
    all_put h = let e : count - i ≡ 0 = omega arith in rw e at u.same

-- ---- tests

module _ (number : ℕ) where
  pub put_same : (p q : ℕ → Bool) (i count : ℕ) (values : List ℕ) → ((k : ℕ) → p k ≡ q k)
      → put_where p number i count values ≡ put_where q number i count values
  unfolding put_where
  put_same p q i zero values h = refl
  put_same p q i (suc count) values h = rw (h i) (put_same p q (suc i) count _ h)

  pub put_none : (p : ℕ → Bool) (i count : ℕ) (values : List ℕ) → ((k : ℕ) → p k ≡ false) → put_where p number i count values ≡ values
  unfolding put_where
  put_none p i zero values h = refl
  put_none p i (suc count) values h = rw (h i) (put_none p (suc i) count values h)

  put_each : (i count : ℕ) (values : List ℕ)
      → put_where (λ _. true) number i count values ≡ sets values (suc i) (map (λ _. number) (numbers_from i count))
  unfolding put_where numbers_from
  put_each i zero values = refl
  put_each i (suc count) values = put_each (suc i) count (set values (suc i) number)

  pub put_all : (count : ℕ) (values : List ℕ) → put_where (λ _. true) number 0 count values ≡ sets values 1 (each_of (λ _. number) count)
  put_all count values = put_each 0 count values

-- ---- over numbers that were stored before

-- a store before others
set_before : (values : List ℕ) (a b x : ℕ) (others : List ℕ) → a < b → set (sets values b others) a x ≡ sets (set values a x) b others
set_before values a b x [] h = refl
set_before values a b x (v ∷ others) h =
    set_before (set values b v) a (suc b) x others (omega arith)
    ∙ ap (λ (l : List ℕ). sets l (suc b) others) (set_comm values b a v x (λ e. omega arith))

module _ (values : List ℕ) (place x old : ℕ) (others : List ℕ) where
  put_first : (b : Bool)
      → cond b (set (sets (set values place old) (suc place) others) place x) (sets (set values place old) (suc place) others)
      ≡ sets (set values place (cond b x old)) (suc place) others
  put_first true =
      set_before (set values place old) place (suc place) x others (omega arith)
      ∙ ap (λ (l : List ℕ). sets l (suc place) others) (set-set values place old x)
  put_first false = refl

module _ (p : ℕ → Bool) (number : ℕ) (old : ℕ → ℕ) where
  put_from : (i count : ℕ) (values : List ℕ)
      → put_where p number i count (sets values (suc i) (map old (numbers_from i count)))
      ≡ sets values (suc i) (map (λ k. cond (p k) number (old k)) (numbers_from i count))
  unfolding put_where numbers_from
  put_from i zero values = refl
  put_from i (suc count) values =
      ap (put_where p number (suc i) count) (put_first values (suc i) number (old i) (map old (numbers_from (suc i) count)) (p i))
      ∙ put_from (suc i) count (set values (suc i) (cond (p i) number (old i)))

  pub put_over : (count : ℕ) (values : List ℕ)
      → put_where p number 0 count (sets values 1 (each_of old count)) ≡ sets values 1 (each_of (λ k. cond (p k) number (old k)) count)
  put_over count values = put_from 0 count values
