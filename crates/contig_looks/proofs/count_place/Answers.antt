-- By whether there is an interval that lies in the clip.
use borrow.Author.Rules.{rules}
use borrow.Author.Tests.{not-false, not-true}
use mathlib.Core.Bool.{false, true}
use mathlib.Core.Path.{◌∙◌, sym}
use native.Mathlib.Omega.{arith}
use Rattle.breakpoint_windows.proofs.ContigWindows.{depth_from, depth_sum_lem}
use Rattle.contig_looks.proofs.Counting.{count_few, counted_on}
use Rattle.contig_looks.proofs.count_place.Goals as goal

pub overflow_add-depth : goal.overflow_add-depth
overflow_add-depth c = let (rest, ready) = c.requires in
    omega (arith, depth_sum_lem ready.window ready.so_far.deep)

pub overflow_sub-depth : goal.overflow_sub-depth
overflow_sub-depth c = let (rest, ready) = c.requires in
    depth_from ready.window ready.so_far.deep

pub overflow_add-intervals : goal.overflow_add-intervals
overflow_add-intervals c = let (rest, ready) = c.requires in
    omega (arith, count_few ready)

pub returns-then-has_interval : goal.returns-then-has_interval
returns-then-has_interval c = λ rest ready.
    counted_on ready true (sym (c.if-has_interval.true) ∙ c.has_interval.ensures) _ (omega arith)

pub returns-else-has_interval : goal.returns-else-has_interval
returns-else-has_interval c = λ rest ready.
    counted_on ready false (sym (c.if-has_interval.false) ∙ c.has_interval.ensures) _ (omega arith)
