-- By whether it is met.
use borrow.Author.Rules.{rules}
use Rattle.marker_sums.proofs.weighed.Goals as goal

pub returns-then-met : goal.returns-then-met
returns-then-met c = rw (c.if-met.true) (c.column.ensures)
