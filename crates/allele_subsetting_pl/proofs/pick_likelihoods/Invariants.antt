-- The values from a place on are left to store; a value is that of the pair at its place among the pairs of 16 alleles.
use Prim.Native.Nat.{◌-◌}
use borrow.Author.Rules.{rules}
use lib.ListN.{drop, length}
use mathlib.Core.List.{map}
use mathlib.Core.Path.{◌∙◌}
use native.Mathlib.Omega.{arith}
use Rattle.allele_subsetting_pl.proofs.Picked.{by_pairs, few_genotypes, picked_there, picked_at}
use Rattle.allele_subsetting_pl.specs.KeepLists.{absent_likelihood}
use Rattle.definitions.specs.Genotypes.{at_mapped_pairs, genotype_pairs}
use Rattle.genotype_values.proofs.Mapped.{no_pair}
use Rattle.genotype_values.proofs.Storing.{Unstored, all_left, all_stored, next_stored, unstored_length}
use Rattle.laws.proofs.Genotypes.{genotype_pairs_length}
use Rattle.allele_subsetting_pl.proofs.pick_likelihoods.Given as goal

abbrev pub invariant-loop-place : goal.invariant-loop-place
invariant-loop-place l = Unstored l.initial.picked (at_mapped_pairs absent_likelihood l.map l.gl) l.picked l.place
    (map (picked_at l.map l.gl) (drop l.place (genotype_pairs (length l.map))))

abbrev pub decreases-loop-place : goal.decreases-loop-place
decreases-loop-place l = l.count - l.place
