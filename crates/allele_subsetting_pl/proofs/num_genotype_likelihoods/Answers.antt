-- The product is small.
use borrow.Author.Rules.{rules}
use native.Mathlib.Omega.{arith}
use Rattle.genotype_values.proofs.Mapped.{count_is, product_bound}
use Rattle.allele_subsetting_pl.proofs.num_genotype_likelihoods.Goals as goal

pub overflow_mul-result : goal.overflow_mul-result
overflow_mul-result c = omega (arith, product_bound c.args.alleles c.requires)

pub returns : goal.returns
returns c = count_is c.args.alleles
