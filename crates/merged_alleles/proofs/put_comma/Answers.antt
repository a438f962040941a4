-- None behind no ALTs.
use Rattle.kv_write.proofs.Laying.{laid_none}
use Rattle.merged_alleles.proofs.Listing.{a_comma, no_comma}
use Rattle.merged_alleles.proofs.put_comma.Goals as goal

pub returns-then-n-eq0 : goal.returns-then-n-eq0
returns-then-n-eq0 c = rw (no_comma _ c.if-n-eq0.true) laid_none

pub returns : goal.returns
returns c = rw (a_comma _ c.if-n-eq0.false) (c.put_byte.ensures)
