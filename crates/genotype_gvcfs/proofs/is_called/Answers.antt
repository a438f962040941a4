-- By the number of alleles.
use borrow.Author.Tests.{eq-eqb, ne_eqb}
use Rattle.genotype_gvcfs.proofs.is_called.Goals as goal

pub returns-then-alleles-ne2 : goal.returns-then-alleles-ne2
returns-then-alleles-ne2 c = rw (ne_eqb _ 2 c.if-alleles-ne2.true)

pub returns-else-alleles-ne2 : goal.returns-else-alleles-ne2
returns-else-alleles-ne2 c = rw (eq-eqb _ 2 c.if-alleles-ne2.false)
