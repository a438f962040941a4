-- Marker by marker, each behind those of the table.
use Prim.Native.Nat.{◌-◌, ◌≤◌}
use lib.ListN.{length}
use Rattle.marker_groups.proofs.Reading.{Reading}
use Rattle.marker_groups.proofs.read_markers.Given as goal

abbrev pub invariant-loop-at : goal.invariant-loop-at
invariant-loop-at l = Reading l.s l.initial.rows l.rows l.at l.count × (6500 ≤ length l.initial.rows)

abbrev pub decreases-loop-at : goal.decreases-loop-at
decreases-loop-at l = length l.s - l.at
