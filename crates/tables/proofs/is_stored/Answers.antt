-- By the two tests.
use borrow.Author.Tests.{le-ltb, lt-ltb}
use Rattle.tables.specs.Tables.{is_stored}
use Rattle.tables.proofs.is_stored.Goals as goal

pub returns-then-count-gt0 : goal.returns-then-count-gt0
unfolding is_stored
returns-then-count-gt0 c = rw (lt-ltb _ _ c.if-count-gt0.true)

pub returns-else-count-gt0 : goal.returns-else-count-gt0
unfolding is_stored
returns-else-count-gt0 c = rw (le-ltb _ _ c.if-count-gt0.false)
