-- The values from i on are left to store.
use Prim.Native.Nat.{◌-◌}
use borrow.Author.Rules.{rules}
use lib.Ieee.{binary64, nan, sub}
use lib.ListN.{drop}
use mathlib.Core.List.{map}
use mathlib.Core.Path.{◌≡◌, sym}
use native.Mathlib.Omega.{arith}
use Rattle.definitions.specs.AlleleSubset.{greatest, less_greatest}
use Rattle.genotype_values.proofs.Storing.{Unstored, all_left, all_stored, next_stored, unstored_length}
use Rattle.likelihoods.proofs.Greatest.{less_each, less_none}
use Rattle.likelihoods.proofs.scale_log_space_array_for_numerical_stability.Given as goal

abbrev pub invariant-loop-i : goal.invariant-loop-i
invariant-loop-i l = (l.best ≡ greatest l.values) × Unstored l.initial.out (less_greatest l.values) l.out l.i (map (λ x. sub binary64 x (greatest l.values)) (drop l.i l.values))
