-- The loops over the markers that one names, and over all markers.
use Prim.Native.Nat.{◌*◌, ◌+◌, ◌-◌, ◌<◌, ◌≤◌, suc, ℕ}
use lib.Dec.{eqb}
use lib.ListN.{get_or, length, length-set, set}
use mathlib.Core.Bool.{Bool, ◌&&◌, cond, false, true}
use mathlib.Core.List.{List, map}
use mathlib.Core.Path.{◌∙◌, ◌≡◌, refl, sym}
use mir.Val.{bool_byte}
use native.Mathlib.Nat.{add_assoc, sub-zero}
use native.Mathlib.Omega.{arith}
use Rattle.definitions.specs.Lists.{all_of, numbers_from}
use Rattle.marker_groups.specs.Markers.{after_at, column}
use Rattle.tables.proofs.Stored.{rows_end, rows_next}
use Rattle.marker_sums.specs.Sums.{SumReady, is_set, met_after, sum_over}

-- ---- the markers that one names

abbrev named : List ℕ → ℕ → ℕ → ℕ
named rows marker j = column (9 + j) rows marker

pub met_start : (rows met : List ℕ) (marker n : ℕ) → n ≡ column 8 rows marker
    → met_after rows met marker ≡ all_of (is_set met) (map (named rows marker) (numbers_from 0 (n - 0)))
unfolding met_after after_at
met_start rows met marker n e = rw (sub-zero n, e)

module _ (rows met : List ℕ) (marker n j : ℕ) (inv : met_after rows met marker ≡ all_of (is_set met) (map (named rows marker) (numbers_from j (n - j)))) where
  pub met_fails : j < n → is_set met (named rows marker j) ≡ false → false ≡ met_after rows met marker
  unfolding all_of
  met_fails h e = sym (inv ∙ rw (rows_next (named rows marker) n j h, e))

  pub met_next : j < n → is_set met (named rows marker j) ≡ true
      → met_after rows met marker ≡ all_of (is_set met) (map (named rows marker) (numbers_from (j + 1) (n - (j + 1))))
  unfolding all_of
  met_next h e = inv ∙ rw (rows_next (named rows marker) n j h, e)

  pub met_end : n ≤ j → true ≡ met_after rows met marker
  unfolding all_of
  met_end h = sym (inv ∙ rw (rows_end (named rows marker) n j h))

-- ---- all markers

-- the flag of a marker that is met or not
pub flag_is : (b : Bool) → bool_byte b ≡ cond b 1 0
flag_is true = refl
flag_is false = refl

pub record Summing (rows shown met₀ : List ℕ) (count : ℕ) (met : List ℕ) (sum m : ℕ) : Type 0 where
  pub whole : sum_over rows shown met₀ (numbers_from 0 count) ≡ sum + sum_over rows shown met (numbers_from m (count - m))
  pub small : sum ≤ 100 * m
  pub few : m ≤ count
  pub long : length met ≡ 500

pub summing_start : (rows shown met : List ℕ) (count : ℕ) → length met ≡ 500 → Summing rows shown met count met 0 0
summing_start rows shown met count long =
    record { whole = rw (sub-zero count) (omega arith); small = omega arith; few = omega arith; long = long }

pub light_weight : (is : Bool) (weight heavy : ℕ) → weight ≡ cond is heavy 0 → heavy ≤ 100 → weight ≤ 100
light_weight true weight heavy q h = rw q h
light_weight false weight heavy q h = omega arith

module _ {rows shown met₀ : List ℕ} {count : ℕ} {met : List ℕ} {sum m : ℕ} (s : Summing rows shown met₀ count met sum m) where
  pub summing_next : SumReady rows count → m < count → (is : Bool) → is ≡ (eqb (get_or shown m 0) 1 && met_after rows met m)
      → (flag weight : ℕ) → flag ≡ cond is 1 0 → weight ≡ cond is (column 7 rows m) 0
      → Summing rows shown met₀ count (set met m flag) (sum + weight) (m + 1)
  unfolding sum_over numbers_from
  summing_next ready h is e flag weight f w = record {
    whole =
        let one : count - m ≡ suc (count - (m + 1)) = omega arith in
        let more : suc m ≡ m + 1 = omega arith in
        s.whole ∙ rw (one, ← e, ← f, ← w, more) (sym (add_assoc sum weight (sum_over rows shown (set met m flag) (numbers_from (m + 1) (count - (m + 1))))));
    small = let light = light_weight is weight (column 7 rows m) w (ready.light m h) in omega (arith, s.small);
    few = omega arith;
    long = length-set met m flag ∙ s.long;
  }

  pub summing_end : count ≤ m → sum ≡ sum_over rows shown met₀ (numbers_from 0 count)
  unfolding sum_over numbers_from
  summing_end past = let none_left : count - m ≡ 0 = omega arith in sym (s.whole ∙ rw none_left (omega arith))
