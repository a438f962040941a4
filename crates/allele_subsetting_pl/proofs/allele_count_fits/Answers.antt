-- By the two tests.
use Rattle.std.proofs.lemmas.Grind.{common_steps}
use Rattle.std.proofs.Common.{arith}
use Rattle.std.proofs.lemmas.Bool.Decides.{nat_tests}
use Rattle.definitions.specs.AlleleSubset.{allele_count_fits}
use Rattle.allele_subsetting_pl.proofs.allele_count_fits.Goals as goal

pub returns-then-alleles-ge1 : goal.returns-then-alleles-ge1
unfolding allele_count_fits
returns-then-alleles-ge1 c = grind (arith, common_steps, nat_tests)

pub returns-else-alleles-ge1 : goal.returns-else-alleles-ge1
unfolding allele_count_fits
returns-else-alleles-ge1 c = grind (arith, common_steps, nat_tests)
