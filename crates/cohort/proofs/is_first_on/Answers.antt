-- By the site's contig number, then by the name.
use borrow.Author.Tests.{eq-eqb, ne_eqb}
use Rattle.cohort.proofs.is_first_on.Goals as goal

pub returns-then-contig_of-site : goal.returns-then-contig_of-site
returns-then-contig_of-site c = rw (← c.contig_of.ensures, ne_eqb _ _ c.if-contig_of-site.true)

pub returns : goal.returns
returns c = rw (← c.contig_of.ensures, eq-eqb _ _ c.if-contig_of-site.false, ← c.contig_name-name.ensures) (c.same_bytes.ensures)
