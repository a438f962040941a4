-- Outside the table there is nothing.
use native.Mathlib.Omega.{arith}
use Rattle.marker_groups.proofs.Rows.{column_past}
use Rattle.marker_groups.specs.Markers.{column}
use Rattle.marker_groups.proofs.column.Goals as goal

pub returns-then-marker-ge-TOO_MANY_MARKERS : goal.returns-then-marker-ge-TOO_MANY_MARKERS
returns-then-marker-ge-TOO_MANY_MARKERS c = column_past (c.args.k) _ (c.args.marker) (omega arith)

pub returns-then-k-ge-TOO_MANY_NUMBERS : goal.returns-then-k-ge-TOO_MANY_NUMBERS
returns-then-k-ge-TOO_MANY_NUMBERS c = column_past (c.args.k) _ (c.args.marker) (omega arith)

pub returns : goal.returns
unfolding column
returns c = c.value_or.ensures
