-- The loop's invariant: some place passes if one from here on does.
use Prim.Native.Nat.{◌-◌, ℕ}
use borrow.Author.Rules.{rules}
use lib.Dec.{eqb}
use lib.ListN.{get_or, length}
use mathlib.Core.Bool.{Bool, ◌&&◌}
use mathlib.Core.List.{List}
use mathlib.Core.Path.{◌∙◌, ◌≡◌, refl, sym}
use native.Mathlib.Omega.{arith}
use Rattle.definitions.specs.Genotypes.{genotype_pairs, least}
use Rattle.definitions.specs.Lists.{any_of, numbers_from}
use Rattle.definitions.specs.SelectionSheet.{in_least_pair, pair_has}
use Rattle.shown_alleles.proofs.Pairs.{any_end, any_here, any_next, any_start}
use Rattle.shown_alleles.specs.Shown.{no_pair}
use Rattle.shown_alleles.proofs.in_least_pair.Given as goal

abbrev pub IsLeast : List ℕ → ℕ → ℕ → Bool
IsLeast pl allele i = eqb (get_or pl i 0) (least pl) && pair_has allele (get_or (genotype_pairs 16) i no_pair)

abbrev pub invariant-loop-i : goal.invariant-loop-i
invariant-loop-i l = any_of (IsLeast l.pl l.allele) (numbers_from 0 (length l.pl)) ≡ any_of (IsLeast l.pl l.allele) (numbers_from l.i (length l.pl - l.i))
