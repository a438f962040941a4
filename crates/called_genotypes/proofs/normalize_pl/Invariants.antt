-- The values from i on are left to store.
use Prim.Native.Nat.{◌-◌}
use borrow.Author.Rules.{rules}
use lib.ListN.{drop, get_or}
use mathlib.Core.List.{map}
use mathlib.Core.Path.{ap, refl}
use native.Mathlib.Omega.{arith}
use Rattle.called_genotypes.proofs.Folded.{least_below}
use Rattle.definitions.specs.CalledGenotypes.{normalized_pl}
use Rattle.definitions.specs.Genotypes.{least}
use Rattle.genotype_values.proofs.Storing.{Unstored, all_left, all_stored, next_stored, unstored_length}
use Rattle.called_genotypes.proofs.normalize_pl.Given as goal

abbrev pub invariant-loop-i : goal.invariant-loop-i
invariant-loop-i l = Unstored l.initial.out (normalized_pl l.pl) l.out l.i (map (λ p. p - least l.pl) (drop l.i l.pl))
