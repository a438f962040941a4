-- Name by name, the markers of those before stand in the list.
use Rattle.marker_groups.proofs.Afters.{Found}
use Rattle.marker_groups.proofs.after_markers.Given as goal

abbrev pub invariant-loop-i : goal.invariant-loop-i
invariant-loop-i l = Found l.s l.rows l.count l.list l.numbers l.i
