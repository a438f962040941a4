-- 1 stands for a block.
use borrow.Author.Rules.{rules}
use Rattle.tables.proofs.is_block.Goals as goal

pub returns : goal.returns
returns c = rw (c.column.ensures)
