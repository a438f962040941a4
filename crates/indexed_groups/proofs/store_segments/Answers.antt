-- The loop's invariant: the segments are those of the rows so far, and behind them those from here on.
use Prim.Native.Nat.{◌≤◌}
use lib.ListN.{length}
use mathlib.Core.Path.{◌≡◌}
use native.Mathlib.Omega.{arith}
use Rattle.clip_and_reference.proofs.Places.{placed_faulty}
use Rattle.clip_and_reference.specs.Groups.{SegmentRead}
use Rattle.indexed_groups.proofs.Storing.{counted_all, counted_most, none_stored, segment_stored}
use Rattle.indexed_groups.proofs.store_segments.Goals as goal

pub loop-count-init : goal.loop-count-init
loop-count-init c = none_stored _ _

pub returns-in_default : goal.returns-in_default
unfolding SegmentRead
returns-in_default c =
    let inv = c.loop-count.invariant in
    record { stored = inv; counted = counted_all _ inv.in_rows (placed_faulty _ _ c.in_default.ensures) }

pub store_row-requires : goal.store_row-requires
store_row-requires c = omega (arith, c.requires, c.loop-count.invariant.only.long, c.loop-count-test.true)

pub loop-count-preserved : goal.loop-count-preserved
unfolding SegmentRead
loop-count-preserved c =
    let inv = c.loop-count.invariant in
    let g = c.in-Some.ensures in
    let group = rw (← c.get-first.ensures) at g.0 in
    let room : 95234 ≤ length c.loop-count.rows = omega (arith, c.requires, inv.only.long) in
    rw c.store_row.ensures (segment_stored _ _ _ _ _ _ _ _ c.loop-count-test.true room inv group g.2)

pub returns : goal.returns
returns c =
    let all : c.loop-count.count ≡ 1024 = omega arith in
    let inv = rw all at c.loop-count.invariant in
    record { stored = inv; counted = counted_most _ inv.in_rows (omega arith) }
