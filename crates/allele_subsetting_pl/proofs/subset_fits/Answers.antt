-- One test after the other.
use Rattle.std.proofs.Common.{arith}
use Rattle.std.proofs.lemmas.Grind.{common_steps}
use Rattle.std.proofs.lemmas.Bool.Decides.{nat_tests}
use Rattle.definitions.specs.AlleleSubset.{subset_fits}
use Rattle.allele_subsetting_pl.proofs.subset_fits.Goals as goal

pub returns-then-all_in_range : goal.returns-then-all_in_range
unfolding subset_fits
returns-then-all_in_range c = grind (arith, common_steps, nat_tests)

pub returns-else-all_in_range : goal.returns-else-all_in_range
unfolding subset_fits
returns-else-all_in_range c = grind (arith, common_steps, nat_tests)
