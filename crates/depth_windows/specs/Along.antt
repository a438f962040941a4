-- The records of a list behind its header, what a value becomes along them, and the record at a place.
use Rattle.std.specs.Prelude.{◌-◌, ◌/◌, ◌<◌, ◌≤◌, suc, ℕ, Bool, ◌&&◌, cond, true, List, [], ◌≡◌}
use Rattle.std.proofs.Math.Option.{Option, get_or, none, some}
use Rattle.bio_ids.specs.declared.GenomePosition.{GenomePosition}
use Rattle.definitions.specs.Bytes.{same_bytes}
use Rattle.definitions.specs.Checked.{Checked, accepted, read_each, refused}
use Rattle.definitions.specs.DepthWindows.{is_deep}
use Rattle.definitions.specs.Limits.{max_samples}
use Rattle.definitions.specs.ListReader.{record_read}
use Rattle.definitions.specs.Records.{Record}
use Rattle.list_reader.specs.RecordGroups.{end_option}
use Rattle.list_reader.specs.declared.RecordPlace.{RecordPlace}
use Rattle.list_walk.specs.Walk.{groups_at, start_of}
use Rattle.list_walk.specs.declared.ListHeader.{ListHeader}
use Rattle.site_groups.specs.SiteGroups.{bytes_of}
use Rattle.tables.specs.Tables.{dp_at}
use Rattle.window_counts.specs.Along.{Span, along, counts_with, wider, zeros}
use Rattle.window_counts.specs.Counts.{AddReady, CountsSmall, WindowsReady, added, position_limit}
use Rattle.window_counts.specs.declared.Windows.{Windows}
use Rattle.depth_windows.specs.declared.Asked.{Asked}
use Rattle.answers.specs.Answered.{row_of}
use Rattle.answers.specs.declared.Refusal.{Refusal}
use Rattle.bio_ids.specs.declared.GenomeLoc.{GenomeLoc}
use Rattle.std.specs.Prelude as std

-- the records behind a list's header
unfoldable pub records_at : List ℕ → ListHeader → Checked (List Record)
records_at s h = read_each (record_read h.samples h.records) [] (groups_at s h (start_of h))

-- what a value becomes along them, if they are not refused
unfoldable pub along_records : {S : Type 0} → (S → Record → S) → S → Checked (List Record) → Checked S
along_records f v (refused n) = refused n
along_records f v (accepted rs) = accepted (along f v rs)

-- the last position of the record at a place
abbrev pub place_end : RecordPlace → ℕ
place_end p = get_or (end_option p.end) p.pos.0

-- ---- the extent of a contig

-- `span_with` of the record at a place
abbrev pub place_span : List ℕ → RecordPlace → List ℕ → Option Span → Option Span
place_span s p contig span = cond (same_bytes contig (bytes_of s p.contig)) (wider span p.pos.0 (place_end p)) span

abbrev pub extent_span : std.Option GenomeLoc → Option Span
extent_span (std.Some l) = some (record { first = l.start.0; last = l.end.0 })
extent_span std.None = none

abbrev pub extent_answer : std.Result (std.Option GenomeLoc) Refusal → Checked (Option Span)
extent_answer (std.Ok e) = accepted (extent_span e)
extent_answer (std.Err r) = refused (row_of r)

-- ---- the counts of windows

-- `counts_with` of the record at a place, whose samples' data stands in a table
abbrev pub is_added : List ℕ → RecordPlace → List ℕ → List ℕ → Asked → Bool
is_added s p rows contig asked = same_bytes contig (bytes_of s p.contig) && is_deep asked.threshold (dp_at rows asked.sample.0)

abbrev pub place_added : List ℕ → RecordPlace → List ℕ → List ℕ → Asked → Windows → List ℕ → List ℕ
place_added s p rows contig asked w counts = cond (is_added s p rows contig asked) (added w p.pos.0 (place_end p) counts) counts

abbrev pub AddsReady : List ℕ → RecordPlace → List ℕ → List ℕ → Asked → Windows → List ℕ → Type 0
AddsReady s p rows contig asked w counts = is_added s p rows contig asked ≡ true → AddReady w p.pos.0 (place_end p) counts

-- all records added to counts
abbrev pub counts_along : List ℕ → Asked → Windows → List ℕ → List Record → List ℕ
counts_along contig asked w = along (counts_with contig asked.sample.0 asked.threshold w)

-- the list was read, and its counts fit 32 bits
pub record CountReady (s : List ℕ) (h : ListHeader) (contig : List ℕ) (asked : Asked) (w : Windows) (counts : List ℕ) : Type 0 where
  pub few : h.samples ≤ max_samples
  pub sample_there : asked.sample.0 < h.samples
  pub windows : WindowsReady w
  pub list : List Record
  pub value : records_at s h ≡ accepted list
  pub fits : CountsSmall (counts_along contig asked w counts list)

abbrev pub all_counted : {s : List ℕ} {h : ListHeader} {contig : List ℕ} {asked : Asked} {w : Windows} {counts : List ℕ}
    → CountReady s h contig asked w counts → List ℕ
all_counted {contig = contig} {asked = asked} {w = w} {counts = counts} ready = counts_along contig asked w counts ready.list

-- the same from no counts, for windows up to a last position
abbrev pub from_zero : List ℕ → Asked → Windows → ℕ → List Record → List ℕ
from_zero contig asked w last = counts_along contig asked w (zeros (suc ((last - w.first.0) / w.step)))

pub record FillReady (s : List ℕ) (h : ListHeader) (contig : List ℕ) (asked : Asked) (w : Windows) (last : GenomePosition) : Type 0 where
  pub few : h.samples ≤ max_samples
  pub sample_there : asked.sample.0 < h.samples
  pub windows : WindowsReady w
  pub last_small : last.0 < position_limit
  pub from_first : w.first.0 ≤ last.0
  pub list : List Record
  pub value : records_at s h ≡ accepted list
  pub fits : CountsSmall (from_zero contig asked w last.0 list)

abbrev pub filled_counts : {s : List ℕ} {h : ListHeader} {contig : List ℕ} {asked : Asked} {w : Windows} {last : GenomePosition}
    → FillReady s h contig asked w last → List ℕ
filled_counts {contig = contig} {asked = asked} {w = w} {last = last} ready = from_zero contig asked w last.0 ready.list
