-- The sum by the numbers of markers is that of the definition, by their names: `sum_of_markers`.
use Prim.Native.Nat.{◌+◌, ◌<◌, ◌≤◌, suc, zero, ℕ}
use lib.Dec.{eqb}
use lib.ListN.{get_or, length, length-replicate, length-set, set}
use lib.Seq.{get_or-set_other, get_or-set_same}
use mathlib.Core.Bool.{Bool, ◌&&◌, ◌||◌, cond, false, true}
use mathlib.Core.List.{List, [], ◌∷◌, map}
use mathlib.Core.Path.{◌∙◌, ◌≡◌, ap, refl, sym}
use native.Mathlib.Decide.{ℕ_discrete}
use native.Mathlib.Nat.{zero-add}
use native.Mathlib.Omega.{arith}
use Rattle.definitions.specs.Bytes.{same_bytes}
use Rattle.definitions.specs.Lists.{all_of, any_of, numbers_from}
use Rattle.definitions.specs.Records.{Record}
use Rattle.definitions.specs.SelectionSheet.{met_weights, shows}
use Rattle.laws.proofs.Bytes.{same_refl}
use Rattle.laws.proofs.Every.{Every, also, nothing}
use Rattle.marker_groups.specs.Markers.{RowsSound, after_at, column, marker_at, markers_in, name_of}
use Rattle.marker_sums.specs.Sums.{is_set, met_after, none_met, sum_over}

-- the names of the markers before one that are met, the nearest first
unfoldable met_names : List ℕ → List ℕ → List ℕ → ℕ → List (List ℕ)
met_names s rows met zero = []
met_names s rows met (suc m) =
    let before = met_names s rows met m in
    cond (is_set met m) (name_of s rows m ∷ before) before

-- a flag from there on changes none of them
names_kept : (s rows met : List ℕ) (m k v : ℕ) → m ≤ k → met_names s rows (set met k v) m ≡ met_names s rows met m
unfolding met_names is_set
names_kept s rows met zero k v h = refl
names_kept s rows met (suc m) k v h =
    rw (get_or-set_other met k m v 0 (λ q. absurd (omega arith)), names_kept s rows met m k v (omega arith))

module _ (s rows : List ℕ) (count : ℕ) (sound : RowsSound rows count)
    (apart : (i k : ℕ) → i < k → k < count → (same_bytes (name_of s rows i) (name_of s rows k) ≡ false) × (same_bytes (name_of s rows k) (name_of s rows i) ≡ false))
  where
    -- a later marker has none of the names
    not_named : (met : List ℕ) (m k : ℕ) → m ≤ k → k < count → any_of (same_bytes (name_of s rows k)) (met_names s rows met m) ≡ false
    unfolding met_names any_of
    not_named met zero k h b = refl
    not_named met (suc m) k h b = go (is_set met m) (not_named met m k (omega arith) b)
      where
        go : (f : Bool) → any_of (same_bytes (name_of s rows k)) (met_names s rows met m) ≡ false
            → any_of (same_bytes (name_of s rows k)) (cond f (name_of s rows m ∷ met_names s rows met m) (met_names s rows met m)) ≡ false
        go true e = rw ((apart m k (omega arith) b).1, e)
        go false e = e

    -- an earlier one has one of them if it is met
    named_met : (met : List ℕ) (m i : ℕ) → m ≤ count → i < m → any_of (same_bytes (name_of s rows i)) (met_names s rows met m) ≡ is_set met i
    unfolding met_names any_of
    named_met met zero i few h = absurd (omega arith)
    named_met met (suc m) i few h = at (ℕ_discrete i m) (λ b. named_met met m i (omega arith) b)
      where
        before : (f : Bool) → i < m → any_of (same_bytes (name_of s rows i)) (met_names s rows met m) ≡ is_set met i
            → any_of (same_bytes (name_of s rows i)) (cond f (name_of s rows m ∷ met_names s rows met m) (met_names s rows met m)) ≡ is_set met i
        before true b e = rw ((apart i m b (omega arith)).0, e)
        before false b e = e

        here : (f : Bool) → is_set met m ≡ f
            → any_of (same_bytes (name_of s rows m)) (cond f (name_of s rows m ∷ met_names s rows met m) (met_names s rows met m)) ≡ is_set met m
        here true e = rw (e, same_refl (name_of s rows m))
        here false e = rw e (not_named met m m (omega arith) (omega arith))

        at : Dec (i ≡ m) → (i < m → any_of (same_bytes (name_of s rows i)) (met_names s rows met m) ≡ is_set met i)
            → any_of (same_bytes (name_of s rows i)) (cond (is_set met m) (name_of s rows m ∷ met_names s rows met m) (met_names s rows met m)) ≡ is_set met i
        at (yes e) ih = rw e (here (is_set met m) refl)
        at (no e) ih = let b : i < m = omega (arith, e) in before (is_set met m) b (ih b)

    all_named : (met : List ℕ) (m : ℕ) → m < count → {l : List ℕ} → Every (λ i. i < m) l
        → all_of (λ n. any_of (same_bytes n) (met_names s rows met m)) (map (name_of s rows) l) ≡ all_of (is_set met) l
    unfolding all_of
    all_named met m b nothing = refl
    all_named met m b (also {x = i} h hs) = rw (named_met met m i (omega arith) h, all_named met m b hs)

    after_met : (met : List ℕ) (m : ℕ) → m < count
        → all_of (λ n. any_of (same_bytes n) (met_names s rows met m)) (map (name_of s rows) (after_at rows m)) ≡ met_after rows met m
    unfolding met_after
    after_met met m b = all_named met m b (sound.below m b)

    -- the names with the next marker, met or not
    names_with : (met : List ℕ) (m : ℕ) → m < length met → met_names s rows (set met m 1) (suc m) ≡ name_of s rows m ∷ met_names s rows met m
    unfolding met_names is_set
    names_with met m h = rw (get_or-set_same met m 1 0 h, names_kept s rows met m m 1 (omega arith))

    names_without : (met : List ℕ) (m : ℕ) → m < length met → met_names s rows (set met m 0) (suc m) ≡ met_names s rows met m
    unfolding met_names is_set
    names_without met m h = rw (get_or-set_same met m 0 0 h, names_kept s rows met m m 0 (omega arith))

    module _ (records : List Record) (sample : ℕ) (shown : List ℕ)
        (shows-it : (m : ℕ) → m < count → eqb (get_or shown m 0) 1 ≡ any_of (shows sample (marker_at s rows m)) records) where
      sum_from : (k m : ℕ) (met : List ℕ) → m + k ≡ count → length met ≡ 500
          → met_weights records sample (met_names s rows met m) (map (marker_at s rows) (numbers_from m k)) ≡ sum_over rows shown met (numbers_from m k)
      unfolding met_weights sum_over numbers_from marker_at
      sum_from zero m met e long = refl
      sum_from (suc k) m met e long =
          let b : m < count = omega arith in
          rw (after_met met m b, shows-it m b)
          (go (met_after rows met m) (any_of (shows sample (marker_at s rows m)) records)
          (λ met' long'. sum_from k (suc m) met' (omega arith) long'))
        where
          inside : m < length met
          inside = omega (arith, long, sound.few)

          unmet : ((met' : List ℕ) → length met' ≡ 500
              → met_weights records sample (met_names s rows met' (suc m)) (map (marker_at s rows) (numbers_from (suc m) k)) ≡ sum_over rows shown met' (numbers_from (suc m) k))
              → met_weights records sample (met_names s rows met m) (map (marker_at s rows) (numbers_from (suc m) k))
              ≡ 0 + sum_over rows shown (set met m 0) (numbers_from (suc m) k)
          unmet ih =
              ap (λ (names : List (List ℕ)). met_weights records sample names (map (marker_at s rows) (numbers_from (suc m) k))) (sym (names_without met m inside))
              ∙ ih (set met m 0) (length-set met m 0 ∙ long)
              ∙ sym (zero-add (sum_over rows shown (set met m 0) (numbers_from (suc m) k)))

          go : (a f : Bool)
              → ((met' : List ℕ) → length met' ≡ 500
              → met_weights records sample (met_names s rows met' (suc m)) (map (marker_at s rows) (numbers_from (suc m) k)) ≡ sum_over rows shown met' (numbers_from (suc m) k))
              → cond (a && f)
              (column 7 rows m + met_weights records sample (name_of s rows m ∷ met_names s rows met m) (map (marker_at s rows) (numbers_from (suc m) k)))
              (met_weights records sample (met_names s rows met m) (map (marker_at s rows) (numbers_from (suc m) k)))
              ≡ cond (f && a) (column 7 rows m) 0 + sum_over rows shown (set met m (cond (f && a) 1 0)) (numbers_from (suc m) k)
          go true true ih =
              ap (λ (x : ℕ). column 7 rows m + x)
              (ap (λ (names : List (List ℕ)). met_weights records sample names (map (marker_at s rows) (numbers_from (suc m) k))) (sym (names_with met m inside))
              ∙ ih (set met m 1) (length-set met m 1 ∙ long))
          go true false ih = unmet ih
          go false true ih = unmet ih
          go false false ih = unmet ih

      pub sum_of_markers : met_weights records sample [] (markers_in s rows count) ≡ sum_over rows shown none_met (numbers_from 0 count)
      unfolding markers_in met_names none_met
      sum_of_markers = sum_from count 0 none_met (zero-add count) (length-replicate {A = ℕ} 500 0)
