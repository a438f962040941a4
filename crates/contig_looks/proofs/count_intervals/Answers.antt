-- Window by window.
use Prim.Native.Nat.{◌+◌, ℕ}
use borrow.Author.Rules.{rules}
use borrow.Author.Tests.{not-false, not-true}
use lib.Dec.{ltb}
use lib.ListN.{length}
use mathlib.Core.Bool.{Bool, cond, false}
use mathlib.Core.List.{List, []}
use mathlib.Core.Path.{◌∙◌, ◌≡◌, refl}
use native.Mathlib.Omega.{arith}
use Rattle.breakpoint_windows.proofs.ContigWindows.{contig_window, fewer_left, none_left, stored_exactly, stored_within}
use Rattle.breakpoint_windows.specs.Breakpoints.{all_breakpoints, spans_of}
use Rattle.definitions.specs.Lists.{filter_by}
use Rattle.contig_looks.proofs.Counting.{count_ready, so_far_end, so_far_start}
use Rattle.contig_looks.specs.Counting.{LooksReady, SoFar}
use Rattle.contig_looks.specs.declared.Along.{Along}
use Rattle.breakpoint_windows.proofs.next_breakpoints.Reads as next-breakpoints-reads
use Rattle.contig_looks.proofs.count_window.Reads as count-window-reads
use Rattle.contig_looks.proofs.count_intervals.Goals as goal

pub loop-along-init : goal.loop-along-init
loop-along-init c = record { scratch-long = refl; so_far = λ ready. so_far_start ready }

pub next_breakpoints-window-requires : goal.next_breakpoints-window-requires
next_breakpoints-window-requires c = let (ready, room) = c.requires in
    record {
      in_bounds = omega (arith, c.loop-along.invariant.scratch-long, room);
      every = ready.points.rows_in_range;
      clip_len_bound = ready.points.short;
    }

pub count_window-along-requires : goal.count_window-along-requires
unfolding count_ready
count_window-along-requires c = let ready = c.requires.0 in
    count_ready ready (c.loop-along.invariant.so_far ready) c.next_breakpoints-window.ensures

pub loop-along-smaller : goal.loop-along-smaller
unfolding count_ready contig_window
loop-along-smaller c = let found = c.next_breakpoints-window.ensures in
    let ready = c.requires.0 in
    let counted = c.count_window-along.ensures (count_ready ready (c.loop-along.invariant.so_far ready) found) in
    fewer_left ready.points found counted.there (not-false _ c.if-not-window.false)

pub loop-along-preserved : goal.loop-along-preserved
unfolding count_ready
loop-along-preserved c = let found = c.next_breakpoints-window.ensures in
    let inv = c.loop-along.invariant in
    record {
      scratch-long = found.long ∙ inv.scratch-long;
      so_far = λ ready. (c.count_window-along.ensures (count_ready ready (inv.so_far ready) found)).so_far;
    }

pub returns-then-not-window : goal.returns-then-not-window
unfolding count_ready contig_window
returns-then-not-window c = λ ready.
    let found = c.next_breakpoints-window.ensures in
    let counted = c.count_window-along.ensures (count_ready ready (c.loop-along.invariant.so_far ready) found) in
    so_far_end ready counted.so_far (none_left ready.points found counted.there (not-true _ c.if-not-window.true))
