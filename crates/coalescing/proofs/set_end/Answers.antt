-- Nothing stays nothing.
use borrow.Author.Rules.{rules}
use Rattle.coalescing.specs.Held.{joined_to}
use Rattle.coalescing.proofs.set_end.Goals as goal

pub returns-in_err-block : goal.returns-in_err-block
unfolding joined_to
returns-in_err-block c = search rules

pub returns : goal.returns
unfolding joined_to
returns c = search rules
