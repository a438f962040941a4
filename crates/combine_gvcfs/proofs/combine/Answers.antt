-- The list, and then scratch is cleared.
use borrow.Author.Rules.{rules}
use Rattle.combine_gvcfs.proofs.Loading.{combined}
use Rattle.definitions.specs.Answers.{scratch_after}
use Rattle.combine_gvcfs.proofs.combine.Goals as goal

pub returns : goal.returns
unfolding scratch_after
returns c = combined _ c.combine_texts-outcome.ensures c.combine_texts-outcome.auto.scratch c.clear.ensures
