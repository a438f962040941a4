-- By whether there is such a field.
use borrow.Author.Rules.{rules}
use mathlib.Core.Path.{refl}
use Rattle.allele_subsetting_pl.proofs.Alts.{alt_absent, alt_found}
use Rattle.allele_subsetting_pl.proofs.alt_at.Goals as goal

pub returns-in-Some : goal.returns-in-Some
returns-in-Some c = alt_found c.args.alts.now c.args.allele.0 c.alt_index.ensures c.in-Some.field c.in-Some.ensures c.part.ensures

pub returns-in-None : goal.returns-in-None
returns-in-None c = alt_absent c.args.alts.now c.args.allele.0 c.alt_index.ensures c.in-None.ensures refl
