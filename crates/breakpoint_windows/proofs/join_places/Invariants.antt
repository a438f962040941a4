-- The loop's invariant: the places joined so far, and what the last one comes to with those behind it.
use Prim.Native.Nat.{◌+◌, ◌-◌, ◌<◌, ◌≤◌, suc, ℕ}
use borrow.Author.Rules.{rules}
use borrow.Author.Tests.{eq-eqb, ne_eqb}
use lib.ListN.{drop, drop_of_length-le, get_or, length, length-set, set, take}
use lib.Seq.{append_snoc, drop-cons, drop-set-lt, take-suc-set}
use mathlib.Core.List.{List, [], ◌++◌, ◌∷◌}
use mathlib.Core.Logic.{⊎_elim}
use mathlib.Core.Path.{◌∙◌, ◌≡◌, ap, refl, sym}
use native.Mathlib.Numerals.{add-one}
use native.Mathlib.Omega.{arith}
use Rattle.laws.proofs.Every.{Every, every_uncons}
use Rattle.laws.proofs.Places.{join_from, join_places, joined, joined_light, low_part, no_change, position, position_joined, two_fit, two_light, weights}
use Rattle.breakpoint_windows.specs.Fillings.{Joinable, past_all}
use Rattle.breakpoint_windows.proofs.join_places.Given as goal

pub record Inv (entry places : List ℕ) (last at k : ℕ) : Type 0 where
  pub long : length places ≡ length entry
  pub below : at < k
  pub within : k ≤ length entry
  pub left : take at places ++ join_from last (drop k places) ≡ join_places entry
  pub light : weights (last ∷ drop k places) < no_change
  pub small : position last < past_all
  pub rest : Every (λ e. position e < past_all) (drop k places)

abbrev pub invariant-loop-k : goal.invariant-loop-k
invariant-loop-k l = Inv l.initial.places l.places l.last l.at l.k

abbrev pub decreases-loop-k : goal.decreases-loop-k
decreases-loop-k l = l.len - l.k
