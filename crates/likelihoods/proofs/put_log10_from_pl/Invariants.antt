-- The values from i on are left to store.
use Prim.Native.Nat.{◌-◌}
use borrow.Author.Rules.{rules}
use lib.ListN.{drop}
use mathlib.Core.List.{map}
use mathlib.Core.Path.{refl}
use Rattle.definitions.specs.Likelihoods.{log10_from_pl}
use Rattle.genotype_values.proofs.Storing.{Unstored, all_left, all_stored, next_stored, unstored_length}
use Rattle.likelihoods.proofs.put_log10_from_pl.Given as goal

abbrev pub invariant-loop-i : goal.invariant-loop-i
invariant-loop-i l = Unstored l.initial.out (map log10_from_pl l.pl) l.out l.i (map log10_from_pl (drop l.i l.pl))
