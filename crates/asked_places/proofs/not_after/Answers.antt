-- By the order of the two contigs.
use Rattle.asked_places.proofs.Pairs.{not_greater}
use Rattle.definitions.specs.Bytes.{and_then}
use Rattle.definitions.specs.Lists.{by_order}
use Rattle.definitions.specs.LookUp.{not_after}
use Rattle.asked_places.proofs.not_after.Goals as goal

pub returns-in-Less : goal.returns-in-Less
unfolding not_after by_order and_then
returns-in-Less c = rw (← c.in-Less.ensures)

pub returns-in-Equal : goal.returns-in-Equal
unfolding not_after by_order and_then
returns-in-Equal c = rw (← c.in-Equal.ensures, c.get.ensures, c.get-in-Equal.ensures) (not_greater (c.args.position.0) (c.args.last.0))

pub returns-in-Greater : goal.returns-in-Greater
unfolding not_after by_order and_then
returns-in-Greater c = rw (← c.in-Greater.ensures)
