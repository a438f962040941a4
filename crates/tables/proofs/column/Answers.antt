-- Past the table's end there is nothing, and a slice has fewer than 2^63 bytes.
use borrow.Author.Rules.{rules}
use native.Mathlib.Omega.{arith}
use Rattle.tables.proofs.Parts.{column_past}
use Rattle.tables.specs.Tables.{column}
use Rattle.tables.proofs.column.Goals as goal

pub returns-then-site-ge-TOO_MANY_ROWS : goal.returns-then-site-ge-TOO_MANY_ROWS
returns-then-site-ge-TOO_MANY_ROWS c = column_past c.args.k _ c.args.site (omega arith)

pub returns-then-k-ge-TOO_MANY_NUMBERS : goal.returns-then-k-ge-TOO_MANY_NUMBERS
returns-then-k-ge-TOO_MANY_NUMBERS c = column_past c.args.k _ c.args.site (omega arith)

pub returns : goal.returns
unfolding column
returns c = c.value_or.ensures
