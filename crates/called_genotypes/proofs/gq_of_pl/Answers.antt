-- By whether there is a PL.
use borrow.Author.Rules.{rules}
use Rattle.called_genotypes.proofs.Gq.{gq_there, no_gq}
use Rattle.called_genotypes.proofs.gq_of_pl.Goals as goal

pub returns-then-pl-eq0 : goal.returns-then-pl-eq0
returns-then-pl-eq0 c = no_gq (c.args.pl.now) (c.if-pl-eq0.true)

pub returns : goal.returns
returns c = gq_there (c.args.pl.now) (c.if-pl-eq0.false) (c.gq_phred_from_pl.ensures)
