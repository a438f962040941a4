-- The values from i on are left to store.
use Prim.Native.Nat.{◌-◌}
use borrow.Author.Rules.{rules}
use lib.ListN.{drop, get_or}
use mathlib.Core.List.{map}
use mathlib.Core.Path.{◌∙◌, ap, refl}
use Rattle.definitions.specs.Genotypes.{remapped_ad}
use Rattle.genotype_values.proofs.Storing.{Unstored, all_left, all_stored, next_stored, unstored_length}
use Rattle.genotype_values.proofs.remap_ad.Given as goal

abbrev pub invariant-loop-i : goal.invariant-loop-i
invariant-loop-i l = Unstored l.initial.out (remapped_ad l.map l.ad) l.out l.i (map (λ a. get_or l.ad a 0) (drop l.i l.map))
