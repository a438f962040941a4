-- The numbers from i on are left to store.
use lib.ListN.{drop}
use mathlib.Core.List.{map}
use Rattle.genotype_values.proofs.Storing.{Unstored}
use Rattle.allele_subsetting_pl.proofs.allele_map.Given as goal

abbrev pub invariant-loop-i : goal.invariant-loop-i
invariant-loop-i l = Unstored l.initial.map l.keep l.map l.i (map (λ a. a) (drop l.i l.keep))
