-- By whether the PL is below the second.
use borrow.Author.Rules.{rules}
use borrow.Author.Tests.{le-ltb, lt-ltb}
use Rattle.genotyping.specs.OneReading.{with_later_pl}
use Rattle.genotyping.proofs.with_later_pl.Goals as goal

pub returns-then-p-second : goal.returns-then-p-second
unfolding with_later_pl
returns-then-p-second c = rw (lt-ltb _ _ c.if-p-second.true) c.with_next_pl-r.ensures

pub returns-else-p-second : goal.returns-else-p-second
unfolding with_later_pl
returns-else-p-second c = rw (le-ltb _ _ c.if-p-second.false)
