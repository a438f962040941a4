-- The loop's invariant: the positions before this one are added.
use Prim.Native.Nat.{◌+◌, ◌-◌, ◌<◌, ◌≤◌, suc, ℕ}
use borrow.Author.Rules.{rules}
use borrow.Author.Tests.{ltb-false, ltb-true}
use lib.Dec.{ltb}
use lib.ListN.{length, take}
use mathlib.Core.Bool.{Bool, cond, false, true}
use mathlib.Core.List.Memᴰ
use mathlib.Core.List.{List, [], ◌++◌, ◌∷◌, map, map-append}
use mathlib.Core.Logic.{inl}
use mathlib.Core.Path.{◌∙◌, ◌≡◌, ap, refl}
use native.Mathlib.Omega.{arith}
use Rattle.definitions.specs.Lists.{numbers_from}
use Rattle.laws.proofs.Fillings.{plain_weigh, plain_place}
use Rattle.laws.proofs.Members.{numbers_append}
use Rattle.laws.proofs.Places.{no_change, weights}
use Rattle.breakpoint_windows.proofs.AddedPlaces.{added_none, added_range, added_then, between_numbers, numbers_between}
use Rattle.breakpoint_windows.specs.Fillings.{Added, Ready}
use Rattle.breakpoint_windows.specs.declared.Taken.{Taken}
use Rattle.breakpoint_windows.proofs.add_positions.Given as goal

pub record Inv (places₀ : List ℕ) (past behind from : ℕ) (taken : Taken) (places : List ℕ) (now : Taken) (position : ℕ) : Type 0 where
  pub long : length places ≡ length places₀
  pub so_far : from ≤ position
  pub below : (p : ℕ) → from ≤ p → p < position → p < behind
  pub added : Added past taken (map plain_place (numbers_from from (position - from))) places₀ places now

abbrev pub invariant-loop-position : goal.invariant-loop-position
invariant-loop-position l = Inv l.initial.places l.past l.behind l.from l.initial.now l.places l.now l.position

abbrev pub decreases-loop-position : goal.decreases-loop-position
decreases-loop-position l = l.behind - l.position
