-- Depth along a contig of a combined list: for each window, how many of its positions lie in a record with enough DP. Rows 17 and 14.
use Rattle.std.specs.Prelude.{◌*◌, ◌+◌, ◌-◌, ◌/◌, max, min, suc, ℕ, leb, ltb, get_or, length, Bool, ◌&&◌, cond, false}
use mathlib.Core.List.{List, [], foldr, map}
use Rattle.std.proofs.Math.Option.{Option, none, some}
use Rattle.definitions.specs.Bytes.{same_bytes}
use Rattle.definitions.specs.Checked.{Checked, ◌>>=◌, ◌>>◌, accepted, require, within}
use Rattle.definitions.specs.Genotypes.{least, missing_data}
use Rattle.definitions.specs.Limits.{max_window}
use Rattle.definitions.specs.ListReader.{written_list}
use Rattle.definitions.specs.Lists.{any_of, filter_by, numbers_from}
use Rattle.definitions.specs.Records.{Record, record_end}

-- a window's length or step: 1 to 1,000,000 positions
unfoldable pub window_fits : ℕ → Bool
window_fits n = leb 1 n && leb n max_window

-- a DP at or above the threshold; a missing one is below every threshold
unfoldable pub is_deep : ℕ → Option ℕ → Bool
is_deep threshold none = false
is_deep threshold (some dp) = leb threshold dp

-- the position lies in the record's stretch, and the sample's DP there is deep
unfoldable pub deep_at : ℕ → ℕ → ℕ → Record → Bool
deep_at sample threshold p r =
    leb r.pos p && leb p (record_end r) && is_deep threshold (get_or r.sample_data sample missing_data).dp

-- how many positions of the window that begins here, of this length, lie in such a record of the contig's
unfoldable pub deep_positions : List Record → ℕ → ℕ → ℕ → ℕ → ℕ
deep_positions here sample threshold size begin =
    length (filter_by (λ p. any_of (deep_at sample threshold p) here) (numbers_from begin size))

-- the same of one stretch, from a first to a last position, by arithmetic: how many positions of the window lie in it
unfoldable pub overlap : ℕ → ℕ → ℕ → ℕ → ℕ
overlap first last size begin = min (suc last) (begin + size) - max first begin

-- where windows begin: at a first position and each step on, up to a last position
unfoldable pub window_starts : ℕ → ℕ → ℕ → List ℕ
window_starts step first last = map (λ k. first + k * step) (numbers_from 0 (suc ((last - first) / step)))

-- the records of a contig
unfoldable pub records_on : List ℕ → List Record → List Record
records_on contig = filter_by (λ (r : Record). same_bytes contig r.contig)

-- a contig's first position in a record, and its last
unfoldable pub first_position : List Record → ℕ
first_position here = least (map (λ (r : Record). r.pos) here)

unfoldable pub last_position : List Record → ℕ
last_position here = foldr max 0 (map record_end here)

-- the count of each window of a contig, by its records: from its first position in a record on up to its last; without records none
unfoldable pub windows_over : List Record → ℕ → ℕ → ℕ → ℕ → List ℕ
windows_over here sample threshold size step =
    cond (ltb 0 (length here))
    (map (deep_positions here sample threshold size) (window_starts step (first_position here) (last_position here)))
    []

-- where the first window begins, if there is one, and the count of each
pub record Windows : Type 0 where
  pub first : ℕ
  pub counts : List ℕ

-- The windows of a combined list for a contig, a sample by its number, a threshold, and a length and a step of windows, with so many
-- places for them: rows 1 to 8 as the list is read back, then 17, then 14.
unfoldable pub windows_along : List ℕ → List ℕ → ℕ → ℕ → ℕ → ℕ → ℕ → Checked Windows
windows_along s contig sample threshold size step places = do
  list ← written_list s
  require 17 (window_fits size && window_fits step && ltb sample (length list.names))
  let here = records_on contig list.records in do
    counts ← within places (windows_over here sample threshold size step)
    accepted (record { first = first_position here; counts = counts })

-- their counts, which the slice holds
unfoldable pub depth_windows : List ℕ → List ℕ → ℕ → ℕ → ℕ → ℕ → ℕ → Checked (List ℕ)
depth_windows s contig sample threshold size step places = do
  windows ← windows_along s contig sample threshold size step places
  accepted windows.counts
