-- The loop's invariant: all are met if those from here on are.
use Prim.Native.Nat.{◌+◌, ◌-◌}
use borrow.Author.Rules.{rules}
use borrow.Author.Tests.{not-false, not-true}
use mathlib.Core.List.{map}
use mathlib.Core.Path.{◌∙◌, ◌≡◌, sym}
use native.Mathlib.Omega.{arith}
use Rattle.definitions.specs.Lists.{all_of, numbers_from}
use Rattle.marker_groups.specs.Markers.{column}
use Rattle.marker_sums.proofs.Steps.{met_end, met_fails, met_next, met_start}
use Rattle.marker_sums.specs.Sums.{is_set, met_after}
use Rattle.marker_sums.proofs.all_met.Given as goal

abbrev pub invariant-loop-j : goal.invariant-loop-j
invariant-loop-j l = met_after l.rows l.met l.marker ≡ all_of (is_set l.met) (map (λ k. column (9 + k) l.rows l.marker) (numbers_from l.j (l.names - l.j)))

abbrev pub decreases-loop-j : goal.decreases-loop-j
decreases-loop-j l = l.names - l.j
