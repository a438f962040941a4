-- A text that is not given is not looked at.
use Rattle.combine_gvcfs.specs.Combined.{at_most}
use Rattle.definitions.specs.Lists.{missing_or, only_if}
use Rattle.combine_gvcfs.proofs.has_at_most.Goals as goal

pub returns-then-not-given : goal.returns-then-not-given
unfolding at_most missing_or only_if
returns-then-not-given c = rw c.if-not-given.true

pub returns-else-not-given : goal.returns-else-not-given
unfolding at_most missing_or only_if
returns-else-not-given c = rw c.if-not-given.false
