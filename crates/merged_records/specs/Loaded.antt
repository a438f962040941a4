-- What the code that combines knows of its tables and texts: the input of the definitions that they hold.
use Rattle.std.specs.Prelude.{◌<◌, ◌≤◌, ℕ, length, Bool, true, List, map, ◌≡◌}
use Rattle.clip_and_reference.specs.Groups.{SegmentsFrom}
use Rattle.covering_sites.specs.Covering.{contig_sites, covering_rows}
use Rattle.covering_sites.specs.Runs.{Runs}
use Rattle.definitions.specs.ClipAndReference.{ReferenceSegment}
use Rattle.definitions.specs.CombinedList.{Input}
use Rattle.definitions.specs.Limits.{max_samples}
use Rattle.definitions.specs.Lists.{only_if}
use Rattle.indexed_groups.specs.Indexed.{SegmentsIndexed}
use Rattle.laws.proofs.SoundInput.{SoundInput}
use Rattle.tables.specs.Tables.{SiteRows, column, part_at}

-- the cohort text and its rows, so many samples, and the reference text if it is there, hold this input
pub record Loaded (s rows : List ℕ) (samples : ℕ) (referenced : Bool) (reference : List ℕ) : Type 0 where
  pub input : Input
  pub table : SiteRows s rows input.cohort.sites
  pub names : samples ≡ length input.cohort.names
  pub few : samples ≤ max_samples
  pub segments : List ReferenceSegment
  pub segments_from : referenced ≡ true → SegmentsFrom reference 0 segments
  pub segments_indexed : referenced ≡ true → SegmentsIndexed reference rows
  pub reference_is : input.reference ≡ only_if referenced segments
  pub sound : SoundInput input

-- a contig, by its name and its first site
pub record OnContig (s rows : List ℕ) (samples : ℕ) (referenced : Bool) (reference contig : List ℕ) : Type 0 where
  pub loaded : Loaded s rows samples referenced reference
  pub first : ℕ
  pub known : first < length loaded.input.cohort.sites
  pub own : column 1 rows first ≡ first
  pub name : contig ≡ part_at 7 8 s rows first

module _ {s rows : List ℕ} {samples : ℕ} {referenced : Bool} {reference contig : List ℕ} (on : OnContig s rows samples referenced reference contig) where
  -- its sites in runs, one for each sample
  abbrev pub runs : ℕ → List ℕ
  runs = contig_sites rows (length on.loaded.input.cohort.sites) on.first

  abbrev pub InRuns : List ℕ → List ℕ → Type 0
  InRuns chosen bounds = Runs chosen bounds samples runs

  -- the numbers of the sites that cover a position
  abbrev pub covering_numbers : ℕ → List ℕ
  covering_numbers position = covering_rows rows position samples runs

  -- the samples whose they are
  abbrev pub covering_owners : ℕ → List ℕ
  covering_owners position = map (column 0 rows) (covering_numbers position)

-- the same with the sites in these runs
pub record ContigRuns (s rows : List ℕ) (samples : ℕ) (referenced : Bool) (reference contig chosen bounds : List ℕ) : Type 0 where
  pub on : OnContig s rows samples referenced reference contig
  pub in_runs : InRuns on chosen bounds
