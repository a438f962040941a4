-- The pairs from an offset on are left.
use Prim.Native.Nat.{◌-◌}
use Rattle.asked_places.proofs.Pairs.{Counting}
use lib.ListN.{length}
use Rattle.asked_places.proofs.count_pairs.Given as goal

abbrev pub invariant-loop-at : goal.invariant-loop-at
invariant-loop-at l = Counting l.s l.at l.count l.last l.position

abbrev pub decreases-loop-at : goal.decreases-loop-at
decreases-loop-at l = length l.s - l.at
