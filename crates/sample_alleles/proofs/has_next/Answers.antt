-- By the first test.
use borrow.Author.Rules.{rules}
use borrow.Author.Tests.{le-ltb, lt-ltb}
use Rattle.sample_alleles.proofs.has_next.Goals as goal

pub returns-then-end-len : goal.returns-then-end-len
returns-then-end-len c = rw (lt-ltb _ _ (c.if-end-len.true), c.get-number.ensures)

pub returns-else-end-len : goal.returns-else-end-len
returns-else-end-len c = rw (le-ltb _ _ (c.if-end-len.false))
