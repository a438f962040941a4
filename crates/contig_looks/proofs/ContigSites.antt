-- For callers: with the numbers of a contig's sites, each once, and the clip, what contig_looks requires holds (`looks_ready`); so it does
-- with the contig's sites in runs, one for each sample (`runs_ready`).
use Prim.Native.Nat.{◌<◌, ◌≤◌, ℕ}
use lib.ListN.{get_or, length, take}
use mathlib.Core.Bool.{Bool, cond, true}
use mathlib.Core.List.{List, []}
use mathlib.Core.Path.{◌≡◌}
use Rattle.breakpoint_windows.proofs.ContigSites.{contig_breakpoints}
use Rattle.clip_and_reference.specs.Groups.{SpansFrom}
use Rattle.covering_sites.proofs.ContigNumbers.{chosen_are_numbers, chosen_once}
use Rattle.covering_sites.specs.Covering.{contig_sites}
use Rattle.covering_sites.specs.Runs.{Runs}
use Rattle.definitions.specs.ClipAndReference.{Span}
use Rattle.definitions.specs.CombinedList.{Input}
use Rattle.definitions.specs.Limits.{max_text_length}
use Rattle.definitions.specs.Lists.{only_if}
use Rattle.laws.proofs.NoneTwice.{Once}
use Rattle.laws.proofs.SoundInput.{SoundInput}
use Rattle.tables.proofs.ContigNumbers.{NumbersOn, all_sites}
use Rattle.tables.specs.Tables.{SiteRows, column, part_at}
use Rattle.contig_looks.specs.Counting.{LooksReady}

-- the clip text, if it is there, is not too long and holds the input's clip
module _ (x : Input) {clipped : Bool} {clip : List ℕ} {spans : List Span} (short : clipped ≡ true → length clip ≤ max_text_length)
    (from : clipped ≡ true → SpansFrom clip 0 spans) (clip_is : x.clip ≡ only_if clipped spans) where
  unfoldable pub looks_ready : {s rows contig numbers : List ℕ} → SoundInput x → SiteRows s rows x.cohort.sites
      → NumbersOn s rows x.cohort.sites contig numbers → Once numbers → LooksReady rows numbers clipped (cond clipped clip []) contig
  looks_ready sound table on once = record {
    input = x;
    points = contig_breakpoints x short from clip_is sound table on;
    all_sites = all_sites table on once;
  }

  unfoldable pub runs_ready : {s rows : List ℕ} → SoundInput x → SiteRows s rows x.cohort.sites → {samples : ℕ} → samples ≡ length x.cohort.names
      → {first : ℕ} → first < length x.cohort.sites → column 1 rows first ≡ first → {contig : List ℕ} → contig ≡ part_at 7 8 s rows first
      → {chosen bounds : List ℕ} → Runs chosen bounds samples (contig_sites rows (length x.cohort.sites) first)
      → LooksReady rows (take (get_or bounds samples 0) chosen) clipped (cond clipped clip []) contig
  runs_ready sound table names known own name in_runs =
      looks_ready sound table (chosen_are_numbers sound.cohort table names known own name in_runs)
      (chosen_once sound.cohort table names known own name in_runs)
