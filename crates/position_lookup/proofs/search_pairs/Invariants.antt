-- The places from an offset on are left.
use Prim.Native.Nat.{◌-◌}
use lib.ListN.{length}
use Rattle.position_lookup.proofs.Searching.{Searching}
use Rattle.position_lookup.specs.Found.{PairsReady}
use Rattle.position_lookup.proofs.search_pairs.Given as goal

abbrev pub invariant-loop-at : goal.invariant-loop-at
invariant-loop-at l = (ready : PairsReady l.asked l.header) → Searching l.list l.header l.asked l.initial.found ready l.search l.at l.count l.found

abbrev pub decreases-loop-at : goal.decreases-loop-at
decreases-loop-at l = length l.asked - l.at
