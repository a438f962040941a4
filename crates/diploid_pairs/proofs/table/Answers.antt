-- `diploid_pairs::table` meets its contract: antt computes the test at each entry of the table.
-- Assumes nothing.
use mathlib.Core.Path.{refl}
use Rattle.definitions.specs.Alleles.{genotype_count}
use Rattle.definitions.specs.Genotypes.{genotype_index}
use Rattle.diploid_pairs.specs.Pairs.{in_place, passes_from}
use Rattle.diploid_pairs.proofs.table.Goals as goal

pub returns : goal.returns
unfolding passes_from in_place genotype_index genotype_count
returns c = refl
