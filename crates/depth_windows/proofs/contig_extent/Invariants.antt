-- What the extent becomes along all records is what it becomes along those that are left.
use Prim.Native.Nat.{◌-◌}
use lib.ListN.{length}
use mathlib.Core.Option.{none}
use Rattle.window_counts.specs.Along.{span_with}
use Rattle.depth_windows.proofs.Walking.{Walking}
use Rattle.depth_windows.specs.Along.{along_records, extent_span, records_at}
use Rattle.depth_windows.proofs.contig_extent.Given as goal

abbrev pub invariant-loop-place : goal.invariant-loop-place
invariant-loop-place l = Walking (span_with l.contig) l.list l.header (along_records (span_with l.contig) none (records_at l.list l.header)) l.cursor (extent_span l.extent)

abbrev pub decreases-loop-place : goal.decreases-loop-place
decreases-loop-place l = length l.list - l.cursor.next
