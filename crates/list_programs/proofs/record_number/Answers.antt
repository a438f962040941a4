-- By the one number that stands for none.
use Rattle.definitions.specs.Lists.{only_if}
use Rattle.list_programs.specs.FoundLines.{record_option}
use borrow.Author.Tests.{eq-eqb, ne_eqb}
use Rattle.list_programs.proofs.record_number.Goals as goal

pub returns-then-number-eq4294967295 : goal.returns-then-number-eq4294967295
unfolding record_option only_if
returns-then-number-eq4294967295 c = rw (eq-eqb _ _ c.if-number-eq4294967295.true)

pub returns : goal.returns
unfolding record_option only_if
returns c = rw (ne_eqb _ _ c.if-number-eq4294967295.false)
