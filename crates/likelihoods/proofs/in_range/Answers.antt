-- By the two tests.
use lib.Ieee.{odd, of_bits, of_fields}
use Rattle.definitions.specs.AlleleSubset.{in_range, max_size}
use Rattle.likelihoods.proofs.in_range.Goals as goal

pub returns-then-x : goal.returns-then-x
unfolding in_range max_size of_bits of_fields odd
returns-then-x c = rw c.if-x.true

pub returns-else-x : goal.returns-else-x
unfolding in_range max_size of_bits of_fields odd
returns-else-x c = rw c.if-x.false
