-- By whether there is a PL.
use borrow.Author.Rules.{rules}
use lib.ListN.{get_elem?}
use mathlib.Core.Path.{◌∙◌, ap, sym}
use Rattle.definitions.specs.Genotypes.{genotype_pairs}
use Rattle.diploid_pairs.specs.Pairs.{pair_of}
use Rattle.genotype_values.proofs.Best.{no_pl, pl_there}
use Rattle.genotype_values.proofs.best_diploid_gt_from_pl.Goals as goal

pub returns-then-pl-eq0 : goal.returns-then-pl-eq0
unfolding pair_of
returns-then-pl-eq0 c = no_pl c.args.pl.now c.if-pl-eq0.true

pub returns : goal.returns
returns c = c.pair_at.ensures
    ∙ ap (get_elem? (genotype_pairs 16)) c.least_place.ensures ∙ sym (pl_there c.args.pl.now c.if-pl-eq0.false)
