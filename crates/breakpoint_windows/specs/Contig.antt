-- The breakpoints of a contig of an input, as they are read from rows and the clip text, and a window of them.
use Rattle.std.specs.Prelude.{◌*◌, ◌<◌, ◌≤◌, ℕ, length, Bool, List, map, ◌≡◌}
use Rattle.definitions.specs.CombinedList.{Input}
use Rattle.definitions.specs.Intervals.{breakpoints, spans_on}
use Rattle.definitions.specs.Limits.{max_text_length}
use Rattle.definitions.specs.Lists.{is_there}
use Rattle.laws.proofs.Every.{Every}
use Rattle.laws.proofs.Fillings.{place_of}
use Rattle.laws.proofs.Places.{no_change}
use Rattle.laws.proofs.SoundInput.{SoundInput}
use Rattle.laws.proofs.Windows.{window, window_end}
use Rattle.breakpoint_windows.specs.Breakpoints.{RowInRange, all_breakpoints, spans_of}

-- the rows of these sites and the clip text, which is empty without a clip, give the breakpoints of the input's contig
pub record ContigBreakpoints (x : Input) (rows sites : List ℕ) (clipped : Bool) (clip contig : List ℕ) : Type 0 where
  pub sound : SoundInput x
  pub clip_there : clipped ≡ is_there x.clip
  pub spans_are : spans_of clip contig ≡ spans_on contig x.clip
  pub short : length clip ≤ max_text_length
  pub rows_in_range : Every (RowInRange rows) sites
  pub all_places : all_breakpoints rows sites (spans_of clip contig) ≡ breakpoints x.cohort.sites x.clip contig

-- the places hold the contig's breakpoints past a position and below a limit, each with its change of depth
pub record ContigWindow (x : Input) (clipped : Bool) (contig places : List ℕ) (past : ℕ) : Type 0 where
  pub sound : SoundInput x
  pub clip_there : clipped ≡ is_there x.clip
  pub few_spans : 2 * length (spans_on contig x.clip) < no_change
  pub limit : ℕ
  pub stored : places ≡ map (place_of (spans_on contig x.clip)) (window past limit (breakpoints x.cohort.sites x.clip contig))

-- the last breakpoint below the limit, or the position if there is none past it
abbrev pub contig_window_end : Input → List ℕ → ℕ → ℕ → ℕ
contig_window_end x contig past limit = window_end past (window past limit (breakpoints x.cohort.sites x.clip contig))
