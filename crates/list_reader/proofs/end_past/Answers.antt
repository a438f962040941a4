-- By whether END is missing.
use Rattle.definitions.specs.Lists.{missing_or}
use Rattle.list_reader.proofs.end_past.Goals as goal

pub returns-in-None : goal.returns-in-None
unfolding missing_or
returns-in-None c = rw c.in-None.is

pub returns-in-Some : goal.returns-in-Some
unfolding missing_or
returns-in-Some c = rw (c.in-Some.is, c.get.ensures, c.get-in-Some.ensures)
