-- That is how short a text has to be.
use borrow.Author.Rules.{rules}
use Rattle.combine_gvcfs.specs.Combined.{at_most}
use Rattle.definitions.specs.CombinedList.{fits}
use Rattle.combine_gvcfs.proofs.is_short.Goals as goal

pub returns : goal.returns
unfolding at_most fits
returns c = c.has_at_most.ensures
