-- By its column.
use borrow.Author.Rules.{rules}
use Rattle.tables.specs.Tables.{depth_at}
use Rattle.tables.proofs.depth_of.Goals as goal

pub returns : goal.returns
unfolding depth_at
returns c = rw (← c.column-depths.ensures, ← c.half_at.ensures) c.optional.ensures
