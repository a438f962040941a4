-- Group by group, each behind the sites in the table, as long as there is a row.
use Prim.Native.Nat.{◌-◌}
use lib.ListN.{length}
use mathlib.Core.Path.{◌≡◌}
use Rattle.cohort.proofs.Sites.{Reading}
use Rattle.cohort.proofs.read_sites.Given as goal

abbrev pub invariant-loop-next : goal.invariant-loop-next
invariant-loop-next l = Reading l.samples l.s l.at l.initial.rows l.rows l.next l.count × (length l.ad ≡ 4) × (length l.pl ≡ 10)

abbrev pub decreases-loop-next : goal.decreases-loop-next
decreases-loop-next l = length l.s - l.next
