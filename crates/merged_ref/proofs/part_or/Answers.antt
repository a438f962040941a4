-- By the part's length.
use borrow.Author.Tests.{eq-eqb, ne_eqb}
use Rattle.merged_ref.specs.Answers.{part_or}
use Rattle.merged_ref.proofs.part_or.Goals as goal

pub returns-then-part-eq0 : goal.returns-then-part-eq0
unfolding part_or
returns-then-part-eq0 c = rw (eq-eqb _ 0 (c.if-part-eq0.true))

pub returns : goal.returns
unfolding part_or
returns c = rw (ne_eqb _ 0 (c.if-part-eq0.false))
