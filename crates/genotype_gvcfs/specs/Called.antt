-- The called list of what a header and the record groups behind it say.
use Rattle.std.specs.Prelude.{◌*◌, ◌≤◌, suc, ℕ, length, true, ◌≡◌}
use mathlib.Core.List.{List, flat_map}
use Rattle.definitions.specs.CalledList.{called_records, printed_called_list, printed_called_record}
use Rattle.definitions.specs.Checked.{Checked, ◌>>=◌, accepted, within}
use Rattle.definitions.specs.Cohort.{samples_of}
use Rattle.definitions.specs.CombinedList.{fits}
use Rattle.definitions.specs.Limits.{max_samples}
use Rattle.definitions.specs.Lines.{lines_of}
use Rattle.definitions.specs.Records.{Record}
use Rattle.kv_text.specs.Lines.{Behind}
use Rattle.list_header.specs.HeaderNames.{HeaderNames}
use Rattle.tables.specs.Tables.{names_in, row_length}
use Rattle.genotype_gvcfs.specs.Walk.{records_from}

-- the called list of the record groups from an offset on, if there is so much room
unfoldable pub called_from : List ℕ → List ℕ → ℕ → ℕ → ℕ → ℕ → Checked (List ℕ)
called_from s names samples records at room = do
  list ← records_from samples records s at
  within room (printed_called_list (names_in s names samples) (called_records list))

-- the records were read and the called ones measured: so many bytes, so many records
pub record Measurement (s names : List ℕ) (samples records at : ℕ) (rows : List ℕ) (len count : ℕ) : Type 0 where
  pub header : HeaderNames s names samples
  pub room : max_samples * row_length ≤ length rows
  pub list : List Record
  pub value : records_from samples records s at ≡ accepted list
  pub len_is : len ≡ length (flat_map printed_called_record (called_records list))
  pub count_is : count ≡ length (called_records list)
  pub few : length list ≤ 4294967295

-- their called list
abbrev pub list_to : {s names : List ℕ} {samples records at : ℕ} {rows : List ℕ} {len count : ℕ}
    → Measurement s names samples records at rows len count → List ℕ
list_to {s} {names} {samples} m = printed_called_list (names_in s names samples) (called_records m.list)

-- the table has the names of a text that is short enough, and its `records` line comes next
pub record HeaderHeld (s names : List ℕ) (samples at : ℕ) : Type 0 where
  pub short : fits s ≡ true
  pub value : samples_of (lines_of s) ≡ accepted (names_in s names samples)
  pub behind : Behind s 0 (suc samples) at
  pub few : samples ≤ max_samples
  pub in_table : 2 * samples ≤ length names
