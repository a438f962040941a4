-- By its two numbers.
use Rattle.tables.specs.Tables.{name_at}
use borrow.Author.Rules.{rules}
use Rattle.sample_alleles.proofs.alt_at.Goals as goal

pub returns : goal.returns
unfolding name_at
returns c = c.part.ensures
