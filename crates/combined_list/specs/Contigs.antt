-- What walking over contigs, one after the other, finds and lays.
use Rattle.std.specs.Prelude.{◌<◌, ◌≤◌, ℕ, length, Bool, cond, List, [], map, ◌≡◌}
use Rattle.covering_sites.specs.Covering.{sample_keys}
use Rattle.covering_sites.specs.Runs.{Runs}
use Rattle.definitions.specs.Checked.{Checked}
use Rattle.definitions.specs.CombinedList.{combined_records, contig_records}
use Rattle.definitions.specs.Intervals.{contigs_of}
use Rattle.definitions.specs.Records.{Record}
use Rattle.laws.proofs.Every.{Every}
use Rattle.merged_records.specs.Loaded.{Loaded}
use Rattle.tables.specs.Tables.{column, part_at}
use Rattle.contig_walk.specs.Walk.{ClipGiven, WalkRoom}
use Rattle.coalescing.specs.Steps.{Progress}

-- a clip that is left out is an empty text
abbrev pub given_clip : Bool → List ℕ → List ℕ
given_clip clipped clip = cond clipped clip []

-- tables and texts that hold an input, and the keys of the sites grouped by sample
pub record Grouped (s rows : List ℕ) (samples : ℕ) (clipped : Bool) (clip : List ℕ) (referenced : Bool) (reference order bounds : List ℕ) : Type 0 where
  pub loaded : Loaded s rows samples referenced reference
  pub clip_given : ClipGiven clipped clip loaded.input
  pub grouped : Runs order bounds samples (sample_keys rows (length loaded.input.cohort.sites))

module _ {s rows : List ℕ} {samples : ℕ} {clipped : Bool} {clip : List ℕ} {referenced : Bool} {reference order bounds : List ℕ}
    (g : Grouped s rows samples clipped clip referenced reference order bounds) where
  -- the site is the first on its contig
  pub record IsFirst (first : ℕ) : Type 0 where
    pub known : first < length g.loaded.input.cohort.sites
    pub own : column 1 rows first ≡ first

  -- the records of a contig, by its first site; any scratch of one place or more gives the same
  abbrev pub records_on : ℕ → Checked (List Record)
  records_on first = contig_records g.loaded.input 1 (part_at 7 8 s rows first)

  -- all records
  abbrev pub all_records : Checked (List Record)
  all_records = combined_records g.loaded.input 1

-- what the walk over one contig is lent
pub record OneReady (s rows : List ℕ) (samples : ℕ) (clipped : Bool) (clip : List ℕ) (referenced : Bool) (reference : List ℕ) (first : ℕ)
    (order bounds out : List ℕ) (at count : ℕ) : Type 0 where
  pub tables : Grouped s rows samples clipped clip referenced reference order bounds
  pub is_first : IsFirst tables first
  pub d₀ : List ℕ
  pub bytes : List ℕ
  pub records : ℕ
  pub progress : Progress d₀ bytes records out at count

-- what the walk over all contigs is lent
pub record AllReady (s rows : List ℕ) (samples : ℕ) (clipped : Bool) (clip : List ℕ) (referenced : Bool) (reference contigs : List ℕ)
    (order bounds out : List ℕ) (at : ℕ) : Type 0 where
  pub tables : Grouped s rows samples clipped clip referenced reference order bounds
  pub names : map (part_at 7 8 s rows) contigs ≡ contigs_of tables.loaded.input.cohort.sites
  pub firsts : Every (IsFirst tables) contigs
  pub d₀ : List ℕ
  pub bytes : List ℕ
  pub progress : Progress d₀ bytes 0 out at 0

-- the lists and buffers that the walk over contigs fills are long enough
pub record ContigRoom (order chosen scratch held fresh alts : List ℕ) : Type 0 where
  pub for_chosen : length order ≤ length chosen
  pub for_window : 2 ≤ length scratch
  pub for_walk : WalkRoom held fresh alts
