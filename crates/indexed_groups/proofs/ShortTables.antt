-- A table that ends before its counts has no rows of segments: all segments are those from offset 0 of the text on.
use Prim.Native.Nat.{◌≤◌, ℕ}
use lib.ListN.{length}
use mathlib.Core.List.{List}
use mathlib.Core.Path.{refl}
use native.Mathlib.Omega.{arith}
use Rattle.definitions.specs.Lists.{numbers_from}
use Rattle.tables.proofs.Parts.{get_d_past}
use Rattle.tables.specs.Tables.{counts_at}
use Rattle.indexed_groups.specs.Indexed.{SegmentsIndexed, SegmentsInRows}

none_in_rows : (reference rows : List ℕ) → SegmentsInRows reference rows 0 0
unfolding numbers_from
none_in_rows reference rows = record { few = omega arith; split = refl }

pub no_segment_rows : (reference rows : List ℕ) → length rows ≤ counts_at → SegmentsIndexed reference rows
no_segment_rows reference rows short =
    rw (get_d_past rows 95232 (omega arith), get_d_past rows 95233 (omega arith)) (none_in_rows reference rows)
