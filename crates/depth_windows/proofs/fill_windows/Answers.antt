use Rattle.depth_windows.proofs.Whole.{filled_given, filled_short, given_refused, zero_ready}
use mathlib.Core.Path.{refl, sym}
use lib.Seq.{length-take-le}
use borrow.Author.Rules.{rules}
use Rattle.depth_windows.proofs.fill_windows.Reads as reads
use Rattle.depth_windows.proofs.fill_windows.Lts as lts
use Rattle.depth_windows.proofs.count_windows.Reads as count-windows-reads
use Rattle.window_counts.proofs.window_count.Reads as window-count-reads
use Rattle.depth_windows.proofs.fill_windows.Goals as goal

pub returns-then-out-count : goal.returns-then-out-count
returns-then-out-count c = λ ready. given_refused (filled_short ready _ _ (c.window_count-count.ensures) (c.if-out-count.true)) refl

pub slice_bounds-count_windows-end-2 : goal.slice_bounds-count_windows-end-2
slice_bounds-count_windows-end-2 c = sym (length-take-le _ _ (c.if-out-count.false))

pub count_windows-requires : goal.count_windows-requires
count_windows-requires c = zero_ready c.requires c.args.out.now _ c.window_count-count.ensures c.if-out-count.false

pub returns : goal.returns
returns c = λ ready. filled_given ready c.args.out.now _ c.window_count-count.ensures c.if-out-count.false _ refl
    c.count_windows.ensures
