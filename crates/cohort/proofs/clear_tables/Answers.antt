-- Each table is cleared.
use Rattle.definitions.specs.Answers.{scratch_after}
use Rattle.cohort.proofs.clear_tables.Goals as goal

pub returns : goal.returns
unfolding scratch_after
returns c = (c.clear-2.ensures, c.clear.ensures)
