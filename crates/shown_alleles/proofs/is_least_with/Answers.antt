-- The least first.
use borrow.Author.Tests.{eq-eqb, ne_eqb}
use Rattle.shown_alleles.proofs.is_least_with.Goals as goal

pub returns-then-value-least : goal.returns-then-value-least
returns-then-value-least c = rw (eq-eqb _ _ (c.if-value-least.true)) (c.pair_has.ensures)

pub returns-else-value-least : goal.returns-else-value-least
returns-else-value-least c = rw (ne_eqb _ _ (c.if-value-least.false))
