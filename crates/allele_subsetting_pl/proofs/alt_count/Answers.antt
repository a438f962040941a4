-- An empty text has none.
use borrow.Author.Rules.{rules}
use Rattle.allele_subsetting_pl.proofs.Alts.{fields_none, fields_some}
use Rattle.definitions.specs.Bytes.{comma}
use Rattle.allele_subsetting_pl.proofs.alt_count.Goals as goal

pub returns-then-alts-eq0 : goal.returns-then-alts-eq0
returns-then-alts-eq0 c = rw (fields_none c.args.alts.now c.if-alts-eq0.true)

pub returns : goal.returns
unfolding comma
returns c = rw (fields_some c.args.alts.now c.if-alts-eq0.false) c.count_fields.ensures
