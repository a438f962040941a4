-- Where the search in each run begins: positions ascend along a contig, so that sites that ended before one are passed over from then on.
use Rattle.std.specs.Prelude.{◌+◌, ◌<◌, ◌≤◌, suc, ℕ, ltb, get_or, length, Bool, cond, ◌≡◌}
use mathlib.Core.List.{List, foldr}
use Rattle.kv_text.specs.Fields.{between}
use Rattle.tables.specs.Tables.{column}

-- the site ends before the position
unfoldable pub row_ended : List ℕ → ℕ → ℕ → Bool
row_ended rows position i = ltb (column 3 rows i) position

-- how many sites at the front of a run end before the position
unfoldable pub ended_front : List ℕ → ℕ → List ℕ → ℕ
ended_front rows position = foldr (λ i n. cond (row_ended rows position i) (suc n) 0) 0

-- where the search in a run that began here begins now
unfoldable pub behind_ended : List ℕ → List ℕ → ℕ → ℕ → ℕ → ℕ
behind_ended rows chosen position start to = start + ended_front rows position (between chosen start to)

-- so many numbers at the front of a list are now these, and the others are as they were
pub record Replaced (before after : List ℕ) (n : ℕ) (f : ℕ → ℕ) : Type 0 where
  pub same_length : length after ≡ length before
  pub new : (x : ℕ) → x < n → get_or after x 0 ≡ f x
  pub others : (x : ℕ) → n ≤ x → get_or after x 0 ≡ get_or before x 0

-- the search for each sample begins in its run, behind sites that end before the position
pub record Ended (rows chosen bounds from : List ℕ) (samples position : ℕ) : Type 0 where
  pub long : samples ≤ length from
  pub above : (x : ℕ) → x < samples → get_or bounds x 0 ≤ get_or from x 0
  pub within : (x : ℕ) → x < samples → get_or from x 0 ≤ get_or bounds (x + 1) 0
  pub ended : (x : ℕ) → x < samples → (k : ℕ) → get_or bounds x 0 ≤ k → k < get_or from x 0 → column 3 rows (get_or chosen k 0) < position
