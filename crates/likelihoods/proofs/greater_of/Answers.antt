-- By the test.
use Rattle.definitions.specs.AlleleSubset.{greater}
use Rattle.likelihoods.proofs.greater_of.Goals as goal

pub returns-then-first-second : goal.returns-then-first-second
unfolding greater
returns-then-first-second c = rw c.if-first-second.true

pub returns-else-first-second : goal.returns-else-first-second
unfolding greater
returns-else-first-second c = rw c.if-first-second.false
