-- The loop's invariant: some allele is shown if one from here on is.
use Prim.Native.Nat.{◌-◌, ℕ}
use borrow.Author.Rules.{rules}
use lib.ListN.{get_or}
use mathlib.Core.Bool.{Bool, ◌&&◌}
use mathlib.Core.List.{List, [], ◌∷◌}
use mathlib.Core.Option.{Option}
use mathlib.Core.Path.{◌∙◌, ◌≡◌, sym}
use native.Mathlib.Omega.{arith}
use Rattle.definitions.specs.Bytes.{comma, fields_of}
use Rattle.definitions.specs.Lists.{any_of, numbers_from}
use Rattle.definitions.specs.Numbers.{number_list}
use Rattle.laws.proofs.Capitals.{same_letters}
use Rattle.definitions.specs.SelectionSheet.{in_least_pair}
use Rattle.shown_alleles.proofs.Pairs.{any_end, any_here, any_next, any_start}
use Rattle.shown_alleles.specs.Shown.{shows_any}
use Rattle.shown_alleles.proofs.shows_allele.Given as goal

abbrev pub IsShown : List ℕ → List (List ℕ) → Option (List ℕ) → ℕ → Bool
IsShown wanted alleles pl a = same_letters wanted (get_or alleles a []) && in_least_pair 16 a pl

abbrev pub invariant-loop-number : goal.invariant-loop-number
invariant-loop-number l = any_of (IsShown l.wanted (l.reference ∷ fields_of comma l.alts) (number_list l.value)) (numbers_from 0 l.alleles)
    ≡ any_of (IsShown l.wanted (l.reference ∷ fields_of comma l.alts) (number_list l.value)) (numbers_from l.number (l.alleles - l.number))

abbrev pub decreases-loop-number : goal.decreases-loop-number
decreases-loop-number l = l.alleles - l.number
