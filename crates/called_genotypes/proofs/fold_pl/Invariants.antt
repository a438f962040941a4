-- The values from a place on are left to store; a value is that of the pair at its place among the pairs of 16 alleles.
use Prim.Native.Nat.{◌-◌}
use borrow.Author.Rules.{rules}
use lib.ListN.{drop}
use mathlib.Core.List.{map}
use mathlib.Core.Path.{◌∙◌, refl, sym}
use native.Mathlib.Omega.{arith}
use Rattle.called_genotypes.proofs.Folded.{folded_length, value_there}
use Rattle.called_genotypes.specs.Values.{folded_pl, retained_pl_at}
use Rattle.definitions.specs.Genotypes.{genotype_pairs}
use Rattle.genotype_values.proofs.Mapped.{count_is, no_pair, product_bound}
use Rattle.genotype_values.proofs.Storing.{Unstored, all_left, all_stored, next_stored, unstored_length}
use Rattle.laws.proofs.Genotypes.{genotype_pairs_length}
use Rattle.called_genotypes.proofs.fold_pl.Given as goal

abbrev pub invariant-loop-place : goal.invariant-loop-place
invariant-loop-place l = Unstored l.initial.out (folded_pl l.retained l.dropped.0 l.pl) l.out l.place (map (retained_pl_at l.pl l.dropped.0) (drop l.place (genotype_pairs l.retained)))

abbrev pub decreases-loop-place : goal.decreases-loop-place
decreases-loop-place l = l.count - l.place
