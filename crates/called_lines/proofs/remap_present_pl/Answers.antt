-- By whether there is a PL.
use borrow.Author.Tests.{eqb-false, eqb-true}
use mathlib.Core.Path.{◌∙◌, sym}
use Rattle.called_genotypes.proofs.Folded.{pl_filled}
use Rattle.definitions.specs.CalledGenotypes.{pl_without_allele}
use Rattle.genotype_values.proofs.Filled.{none_filled, some_filled}
use Rattle.called_lines.proofs.remap_present_pl.Goals as goal

pub returns-then-is_empty : goal.returns-then-is_empty
returns-then-is_empty c = none_filled (pl_without_allele (c.args.alleles) (c.args.dropped.0)) (c.args.pl.now) (eqb-true _ 0 (sym c.is_empty.ensures ∙ c.if-is_empty.true))

pub returns : goal.returns
returns c = some_filled (pl_without_allele (c.args.alleles) (c.args.dropped.0)) (c.args.pl.now) (eqb-false _ 0 (sym c.is_empty.ensures ∙ c.if-is_empty.false))
    (pl_filled (c.requires.0) (c.requires.1) (c.requires.2) (c.remap_pl_drop_alleles.ensures))
