-- What a call for windows along a contig answers, and what its output holds at the end.
use Rattle.std.specs.Prelude.{◌≤◌, ℕ, ltb, length, ◌&&◌, List, ◌≡◌}
use Rattle.std.proofs.Math.Option.{none}
use Rattle.definitions.specs.Answers.{output_after}
use Rattle.definitions.specs.Checked.{Checked, ◌>>=◌, ◌>>◌, accepted, refused, require, within}
use Rattle.definitions.specs.DepthWindows.{Windows, first_position, records_on, window_fits, windows_over}
use Rattle.definitions.specs.Limits.{max_samples}
use Rattle.definitions.specs.Records.{Record}
use Rattle.list_walk.specs.declared.ListHeader.{ListHeader}
use Rattle.window_counts.specs.Along.{along, span_with}
use Rattle.depth_windows.specs.Along.{extent_span, records_at}
use Rattle.answers.specs.Answered.{row_of}
use Rattle.answers.specs.declared.Refusal.{Refusal}
use Rattle.bio_ids.specs.declared.GenomeLoc.{GenomeLoc}
use Rattle.depth_windows.specs.declared.Asked.{Asked}
use Rattle.depth_windows.specs.declared.WindowRun.{WindowRun}
use Rattle.std.specs.Prelude as std

-- where the first window begins, and how many there are
pub record Placed : Type 0 where
  pub first : ℕ
  pub count : ℕ

abbrev pub windowed_answer : std.Result WindowRun Refusal → Checked Placed
windowed_answer (std.Ok run) = accepted (record { first = run.first.0; count = run.count })
windowed_answer (std.Err r) = refused (row_of r)

unfoldable pub placed_of : Checked Windows → Checked Placed
placed_of (refused n) = refused n
placed_of (accepted w) = accepted (record { first = w.first; count = length w.counts })

-- the counts, which the slice holds
unfoldable pub counts_of : Checked Windows → Checked (List ℕ)
counts_of (refused n) = refused n
counts_of (accepted w) = accepted w.counts

-- the answer is that of these windows, or of the row that refuses them, and so is what the output holds at the end
pub record Given (windows : Checked Windows) (out out' : List ℕ) (r : std.Result WindowRun Refusal) : Type 0 where
  pub answer : windowed_answer r ≡ placed_of windows
  pub output : out' ≡ output_after (counts_of windows) out

-- these counts, from a first position on, in so many places
unfoldable pub filled_with : ℕ → List ℕ → ℕ → Checked Windows
filled_with first all places = do
  counts ← within places all
  accepted (record { first = first; counts = counts })

-- the windows of a list with these records and so many samples
unfoldable pub windows_over_span : List Record → ℕ → List ℕ → Asked → ℕ → Checked Windows
windows_over_span list samples contig asked places = do
  require 17 (window_fits asked.size && window_fits asked.step && ltb asked.sample.0 samples)
  filled_with (first_position (records_on contig list))
      (windows_over (records_on contig list) asked.sample.0 asked.threshold asked.size asked.step) places

-- the list was read, and its contig has this extent
pub record OverReady (s : List ℕ) (h : ListHeader) (contig : List ℕ) (extent : std.Option GenomeLoc) : Type 0 where
  pub few : h.samples ≤ max_samples
  pub list : List Record
  pub value : records_at s h ≡ accepted list
  pub extent_is : extent_span extent ≡ along (span_with contig) none list

-- the windows of the records behind a header
unfoldable pub windows_behind : List ℕ → ListHeader → List ℕ → Asked → ℕ → Checked Windows
windows_behind s h contig asked places = do
  list ← records_at s h
  windows_over_span list h.samples contig asked places
