-- By its column.
use borrow.Author.Rules.{rules}
use Rattle.tables.proofs.gq_of.Goals as goal

pub returns : goal.returns
returns c = rw (← c.column.ensures) (c.optional.ensures)
