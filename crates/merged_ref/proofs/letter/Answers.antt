-- By the place.
use Rattle.merged_ref.specs.Answers.{letter_bytes}
use Rattle.merged_ref.proofs.letter.Goals as goal

pub returns-in-Reference : goal.returns-in-Reference
unfolding letter_bytes
returns-in-Reference c = rw (c.in-Reference.is) (c.one_at.ensures)

pub returns-in-Cohort : goal.returns-in-Cohort
unfolding letter_bytes
returns-in-Cohort c = rw (c.in-Cohort.is) (c.one_at-in-Cohort.ensures)

pub returns-in-Nowhere : goal.returns-in-Nowhere
unfolding letter_bytes
returns-in-Nowhere c = rw (c.in-Nowhere.is)
