-- What counting the intervals of a contig is lent, and how far it has come.
use Rattle.std.specs.Prelude.{◌+◌, ℕ, ltb, length, Bool, cond, List, ◌∷◌, ◌≡◌}
use Rattle.breakpoint_windows.specs.Contig.{ContigBreakpoints, ContigWindow}
use Rattle.definitions.specs.CombinedList.{Input}
use Rattle.definitions.specs.Intervals.{breakpoints, clipped_intervals, in_clip, intervals_between, sites_on, spans_on}
use Rattle.definitions.specs.Lists.{filter_by}
use Rattle.laws.proofs.ClipDepth.{depth}
use Rattle.contig_looks.specs.declared.Along.{Along}

-- how many intervals lie in the clip from a breakpoint on; from position 0 on these are all, for no interval begins there
unfoldable pub intervals_from : Input → List ℕ → ℕ → ℕ
intervals_from x contig past =
    let later = filter_by (ltb past) (breakpoints x.cohort.sites x.clip contig) in
    length (filter_by (in_clip contig x.clip) (intervals_between (cond (ltb 0 past) (past ∷ later) later)))

-- The count has come to a breakpoint: with the intervals that are left it is the number of all. The depth is how many clip spans cover it.
pub record SoFar (x : Input) (contig : List ℕ) (along : Along) : Type 0 where
  pub counted : along.intervals + intervals_from x contig along.past ≡ length (clipped_intervals x.cohort.sites x.clip contig)
  pub deep : along.depth ≡ depth (spans_on contig x.clip) along.past

-- it has come to this one
pub record CountedTo (x : Input) (contig : List ℕ) (to : ℕ) (along : Along) : Type 0 where
  pub there : along.past ≡ to
  pub so_far : SoFar x contig along

-- what going through a window is lent: its places, past the breakpoint that the count has come to
pub record CountReady (clipped : Bool) (places : List ℕ) (along : Along) : Type 0 where
  pub input : Input
  pub contig : List ℕ
  pub window : ContigWindow input clipped contig places along.past
  pub so_far : SoFar input contig along

-- what is lent for a contig: its breakpoints, from the rows of its sites and the clip text, and each of its sites once
pub record LooksReady (rows sites : List ℕ) (clipped : Bool) (clip contig : List ℕ) : Type 0 where
  pub input : Input
  pub points : ContigBreakpoints input rows sites clipped clip contig
  pub all_sites : length sites ≡ length (sites_on contig input.cohort.sites)
