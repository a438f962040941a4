-- What the counts become along all records is what they become along those that are left.
use Prim.Native.Nat.{◌-◌}
use lib.ListN.{length}
use mathlib.Core.Path.{◌≡◌}
use Rattle.definitions.specs.Checked.{accepted}
use Rattle.window_counts.specs.Along.{counts_with}
use Rattle.depth_windows.proofs.Walking.{Walking}
use Rattle.depth_windows.specs.Along.{CountReady, all_counted}
use Rattle.depth_windows.proofs.add_records.Given as goal

abbrev pub invariant-loop-place : goal.invariant-loop-place
invariant-loop-place l = (length l.counts ≡ length l.initial.counts)
    × ((ready : CountReady l.list l.header l.contig l.asked l.windows l.initial.counts)
    → Walking (counts_with l.contig l.asked.sample.0 l.asked.threshold l.windows) l.list l.header (accepted (all_counted ready)) l.cursor l.counts)

abbrev pub decreases-loop-place : goal.decreases-loop-place
decreases-loop-place l = length l.list - l.cursor.next
