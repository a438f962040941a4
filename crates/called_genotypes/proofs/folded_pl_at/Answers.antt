-- By whether the place has a pair.
use Rattle.called_genotypes.proofs.Folded.{few_alleles, no_pair_folded, pair_folded}
use Rattle.called_genotypes.proofs.folded_pl_at.Goals as goal

pub retained_allele-a-requires : goal.retained_allele-a-requires
retained_allele-a-requires c = rw c.low.ensures (few_alleles _ _ c.in-Some.ensures).0

pub retained_allele-b-requires : goal.retained_allele-b-requires
retained_allele-b-requires c = rw c.high.ensures (few_alleles _ _ c.in-Some.ensures).1

pub returns-in-Some : goal.returns-in-Some
returns-in-Some c = pair_folded c.args.pl.now c.args.dropped.0 _ c.in-Some.ensures (rw c.low.ensures at c.retained_allele-a.ensures)
    (rw c.high.ensures at c.retained_allele-b.ensures) c.folded_pl.ensures

pub returns-in-None : goal.returns-in-None
returns-in-None c = no_pair_folded c.args.pl.now c.args.dropped.0 c.in-None.ensures
