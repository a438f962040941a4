-- Window by window.
use Prim.Native.Nat.{◌+◌, ℕ}
use borrow.Author.Rules.{rules}
use lib.Dec.{ltb}
use lib.ListN.{length}
use mathlib.Core.Bool.{Bool, cond, false}
use mathlib.Core.List.{List, []}
use mathlib.Core.Path.{◌∙◌, ◌≡◌, refl}
use native.Mathlib.Omega.{arith}
use Rattle.breakpoint_windows.proofs.ContigWindows.{contig_window, fewer_left, none_left, stored_exactly, stored_within}
use Rattle.breakpoint_windows.specs.Breakpoints.{all_breakpoints, spans_of}
use Rattle.definitions.specs.Lists.{filter_by}
use Rattle.contig_looks.proofs.Counting.{count_ready, so_far_end, so_far_start}
use Rattle.contig_looks.specs.Counting.{LooksReady, SoFar}
use Rattle.contig_looks.specs.declared.Along.{Along}
use Rattle.breakpoint_windows.proofs.next_breakpoints.Reads as next-breakpoints-reads
use Rattle.contig_looks.proofs.count_window.Reads as count-window-reads
use Rattle.contig_looks.proofs.count_intervals.Given as goal

pub record Inv (rows sites : List ℕ) (clipped : Bool) (clip contig scratch₀ scratch : List ℕ) (along : Along) : Type 0 where
  pub scratch-long : length scratch ≡ length scratch₀
  pub so_far : (ready : LooksReady rows sites clipped clip contig) → SoFar ready.input contig along

abbrev pub invariant-loop-along : goal.invariant-loop-along
invariant-loop-along l = Inv l.rows l.sites l.clipped l.clip l.contig l.initial.scratch l.scratch l.along

abbrev pub decreases-loop-along : goal.decreases-loop-along
decreases-loop-along l = length (filter_by (ltb l.along.past) (all_breakpoints l.rows l.sites (spans_of l.clip l.contig)))
