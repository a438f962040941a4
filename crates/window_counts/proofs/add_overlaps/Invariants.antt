-- Up to the window that is next, the stretch is added to what the counts were.
use Rattle.window_counts.proofs.Adding.{Adding}
use Rattle.window_counts.proofs.add_overlaps.Given as goal

abbrev pub invariant-loop-count : goal.invariant-loop-count
invariant-loop-count l = Adding l.start l.end l.size l.step l.initial.count-items l.initial.begin l.count-items l.begin l.count-index
