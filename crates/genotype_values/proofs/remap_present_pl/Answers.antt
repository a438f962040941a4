-- By whether there is a PL.
use borrow.Author.Rules.{rules}
use Rattle.definitions.specs.Genotypes.{remapped_pl}
use Rattle.genotype_values.proofs.Filled.{none_filled, pl_filled, some_filled}
use Rattle.genotype_values.proofs.remap_present_pl.Goals as goal

pub returns-then-pl-eq0 : goal.returns-then-pl-eq0
returns-then-pl-eq0 c = none_filled (remapped_pl c.args.map.now) c.args.pl.now c.if-pl-eq0.true

pub returns : goal.returns
returns c = let args = c.args in
    some_filled (remapped_pl args.map.now) args.pl.now c.if-pl-eq0.false (pl_filled c.remap_pl.ensures c.requires)
