-- The place found from the best so far and what is left is that found from all.
use Prim.Native.Nat.{◌-◌}
use borrow.Author.Rules.{rules}
use lib.ListN.{drop}
use mathlib.Core.Logic.{⊎_elim}
use mathlib.Core.Path.{◌∙◌, ◌≡◌, refl, sym}
use Rattle.genotype_values.proofs.Best.{place_end_lem, place_less, place_other, place_start, place_from}
use Rattle.genotype_values.specs.Values.{least_place}
use Rattle.genotype_values.proofs.least_place.Given as goal

abbrev pub invariant-loop-i : goal.invariant-loop-i
invariant-loop-i l = place_from l.best l.least l.i (drop l.i l.pl) ≡ least_place l.pl
