-- The loop's invariant: the breakpoints of the sites before this one are added.
use Prim.Native.Nat.{◌+◌, ◌-◌, ◌<◌, ◌≤◌, ℕ}
use borrow.Author.Rules.{rules}
use lib.ListN.{get_or, length, take}
use lib.Seq.{take_all, take-suc}
use mathlib.Core.List.{List, [], ◌++◌, ◌∷◌, append-nil, flat_map, map, map-append}
use mathlib.Core.Logic.{inl}
use mathlib.Core.Path.{◌∙◌, ◌≡◌, refl}
use native.Mathlib.Numerals.{add-one}
use native.Mathlib.Omega.{arith}
use Rattle.laws.proofs.Every.{every_at, nothing}
use Rattle.laws.proofs.Fillings.{filling_start, plain_weigh, plain_place}
use Rattle.laws.proofs.Members.{flat_map_append}
use Rattle.laws.proofs.Places.{no_change, weights}
use Rattle.breakpoint_windows.proofs.Fills.{fills_then}
use Rattle.breakpoint_windows.specs.Breakpoints.{row_breakpoints}
use Rattle.breakpoint_windows.specs.Fillings.{AddedRun, FromNone, RunTaken, past_all}
use Rattle.breakpoint_windows.specs.declared.Adding.{Adding}
use Rattle.breakpoint_windows.proofs.add_sites.Given as goal

unfoldable pub of_sites : List ℕ → List ℕ → List ℕ
of_sites rows = flat_map (row_breakpoints rows)

pub record Inv (rows sites : List ℕ) (past : ℕ) (places₀ places : List ℕ) (adding : Adding) (i : ℕ) : Type 0 where
  pub long : length places ≡ length places₀
  pub filled : FromNone past (map plain_place (of_sites rows (take i sites))) places adding.taken
  pub run : RunTaken past adding places

abbrev pub invariant-loop-site : goal.invariant-loop-site
invariant-loop-site l = Inv l.rows l.sites l.past l.initial.places l.places l.adding l.site-index
