-- By its two columns.
use borrow.Author.Rules.{rules}
use Rattle.tables.specs.Tables.{part_at}
use Rattle.tables.proofs.part_at.Goals as goal

pub returns : goal.returns
unfolding part_at
returns c = rw (← c.column-first.ensures, ← c.column-end.ensures) (c.part.ensures)
