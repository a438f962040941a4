-- The ALT's bytes.
use borrow.Author.Rules.{rules}
use Rattle.allele_subsetting_pl.proofs.put_alt.Goals as goal

pub put_bytes-requires : goal.put_bytes-requires
put_bytes-requires c = rw c.alt_at-alt.ensures c.requires

pub returns : goal.returns
returns c = rw c.alt_at-alt.ensures at (c.put_bytes.ensures)
