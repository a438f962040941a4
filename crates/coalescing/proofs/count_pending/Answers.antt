-- Variant by variant.
use borrow.Author.Rules.{rules}
use Rattle.coalescing.specs.Held.{pending_count}
use Rattle.coalescing.proofs.count_pending.Goals as goal

pub returns-in-Some : goal.returns-in-Some
unfolding pending_count
returns-in-Some c = rw c.in-Some.is c.count_more.ensures

pub returns-in-None : goal.returns-in-None
unfolding pending_count
returns-in-None c = rw c.in-None.is
