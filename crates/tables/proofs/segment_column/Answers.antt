-- Past the table's end there is nothing, and a slice has fewer than 2^63 bytes.
use Prim.Native.Nat.{◌*◌, ◌+◌}
use borrow.Author.Rules.{rules}
use mathlib.Core.Path.{sym}
use native.Mathlib.Omega.{arith}
use Rattle.tables.proofs.Parts.{get_d_past}
use Rattle.tables.specs.Tables.{segment_column}
use Rattle.tables.proofs.segment_column.Goals as goal

pub returns-then-segment-ge-TOO_MANY_SEGMENTS : goal.returns-then-segment-ge-TOO_MANY_SEGMENTS
unfolding segment_column
returns-then-segment-ge-TOO_MANY_SEGMENTS c = sym (get_d_past (c.args.rows.now) (90112 + c.args.segment * 5 + c.args.k) (omega arith))

pub returns-then-k-ge-TOO_MANY_NUMBERS : goal.returns-then-k-ge-TOO_MANY_NUMBERS
unfolding segment_column
returns-then-k-ge-TOO_MANY_NUMBERS c = sym (get_d_past (c.args.rows.now) (90112 + c.args.segment * 5 + c.args.k) (omega arith))

pub returns : goal.returns
unfolding segment_column
returns c = c.value_or.ensures
