-- The first marker with the name is the first from here on.
use mathlib.Core.Path.{◌≡◌}
use Rattle.marker_groups.proofs.Find.{found, found_from}
use Rattle.marker_groups.proofs.find_marker.Given as goal

abbrev pub invariant-loop-i : goal.invariant-loop-i
invariant-loop-i l = found l.s l.rows l.count l.name ≡ found_from l.s l.rows l.count l.name l.i
