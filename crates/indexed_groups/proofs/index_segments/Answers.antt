-- The two numbers are stored behind the rows.
use Prim.Native.Nat.{◌≤◌}
use lib.ListN.{length, length-set}
use native.Mathlib.Omega.{arith}
use Rattle.indexed_groups.proofs.Storing.{no_segments_given, segments_given}
use Rattle.indexed_groups.proofs.index_segments.Goals as goal

pub returns-then-rows-lt95234 : goal.returns-then-rows-lt95234
returns-then-rows-lt95234 c = no_segments_given _ _ c.if-rows-lt95234.true

pub bounds-rows-95233 : goal.bounds-rows-95233
bounds-rows-95233 c = simp length-set (omega (arith, c.if-rows-lt95234.false, c.store_segments-stored.auto.rows))

pub shape_of-rows : goal.shape_of-rows
shape_of-rows c = simp length-set c.store_segments-stored.auto.rows

pub returns : goal.returns
returns c = let room : 95234 ≤ length c.store_segments-stored.new.rows = omega (arith, c.if-rows-lt95234.false, c.store_segments-stored.auto.rows) in
    segments_given room c.store_segments-stored.ensures.stored c.store_segments-stored.ensures.counted
