-- By whether END is missing.
use borrow.Author.Tests.{eq-eqb, ne_eqb}
use Rattle.definitions.specs.Lists.{is_there}
use Rattle.list_reader.proofs.end_allowed.Goals as goal

pub returns-in-None : goal.returns-in-None
unfolding is_there
returns-in-None c = rw c.in-None.is

pub returns-then-alleles-eq2 : goal.returns-then-alleles-eq2
unfolding is_there
returns-then-alleles-eq2 c = rw (c.in-Some.is, eq-eqb _ _ c.if-alleles-eq2.true)

pub returns-else-alleles-eq2 : goal.returns-else-alleles-eq2
unfolding is_there
returns-else-alleles-eq2 c = rw (c.in-Some.is, ne_eqb _ _ c.if-alleles-eq2.false)
