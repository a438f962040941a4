-- One text after the other.
use Rattle.std.proofs.Common.{arith}
use Rattle.std.proofs.lemmas.Grind.{common_steps}
use Rattle.definitions.specs.Lists.{missing_or, only_if}
use Rattle.combine_gvcfs.proofs.all_short.Goals as goal

pub returns-then-is_short-2 : goal.returns-then-is_short-2
unfolding missing_or only_if
returns-then-is_short-2 c = grind (arith, common_steps)

pub returns-else-is_short-2 : goal.returns-else-is_short-2
unfolding missing_or only_if
returns-else-is_short-2 c = grind (arith, common_steps)
