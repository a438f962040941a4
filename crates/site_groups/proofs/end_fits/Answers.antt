-- By whether there are two alleles.
use borrow.Author.Tests.{eq-eqb, ne_eqb}
use Rattle.site_groups.proofs.end_fits.Goals as goal

pub returns-then-alleles-eq2 : goal.returns-then-alleles-eq2
returns-then-alleles-eq2 c = rw (eq-eqb _ _ c.if-alleles-eq2.true)

pub returns : goal.returns
returns c = rw (ne_eqb _ _ c.if-alleles-eq2.false)
