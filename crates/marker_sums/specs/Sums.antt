-- The summed weights of the markers that a sample meets, by which it shows.
use Rattle.std.specs.Prelude.{◌+◌, ◌<◌, ◌≤◌, ℕ, eqb, get_or, replicate, set, Bool, ◌&&◌, cond, List, [], ◌∷◌}
use Rattle.definitions.specs.Lists.{all_of}
use Rattle.marker_groups.specs.Markers.{RowsSound, after_at, column}

-- a flag is set
unfoldable pub is_set : List ℕ → ℕ → Bool
is_set flags i = eqb (get_or flags i 0) 1

-- all markers are met that a marker names
unfoldable pub met_after : List ℕ → List ℕ → ℕ → Bool
met_after rows met marker = all_of (is_set met) (after_at rows marker)

-- flags of 500 markers, none set
unfoldable pub none_met : List ℕ
none_met = replicate 500 0

-- the sum over markers by their numbers, given which are met before them
unfoldable pub sum_over : List ℕ → List ℕ → List ℕ → List ℕ → ℕ
sum_over rows shown met [] = 0
sum_over rows shown met (m ∷ ms) =
    let is = eqb (get_or shown m 0) 1 && met_after rows met m in
    let rest = sum_over rows shown (set met m (cond is 1 0)) ms in
    cond is (column 7 rows m) 0 + rest

-- the table has so many markers, each of a weight of at most 100
pub record SumReady (rows : List ℕ) (count : ℕ) : Type 0 where
  pub sound : RowsSound rows count
  pub light : (m : ℕ) → m < count → column 7 rows m ≤ 100
