-- In each turn a group is read; what is left for the place is the same.
use Prim.Native.Nat.{◌-◌}
use lib.ListN.{length}
use mathlib.Core.List.{List}
use Rattle.asked_places.specs.Asked.{place_with}
use Rattle.definitions.specs.Records.{Record}
use Rattle.position_lookup.proofs.Reaching.{Reaching}
use Rattle.position_lookup.specs.Found.{StandsAt}
use Rattle.position_lookup.proofs.reach.Given as goal

abbrev pub invariant-loop-header : goal.invariant-loop-header
invariant-loop-header l = (before : List Record) → StandsAt l.list before
    (record { cursor = l.initial.cursor; first = l.initial.first })
    → Reaching l.list l.header (record { cursor = l.initial.cursor; first = l.initial.first }) (place_with l.contig l.position) before (record { cursor = l.cursor; first = l.first })

abbrev pub decreases-loop-header : goal.decreases-loop-header
decreases-loop-header l = length l.list - l.cursor.next
