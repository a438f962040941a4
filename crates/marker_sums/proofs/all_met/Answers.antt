-- The loop's invariant: all are met if those from here on are.
use Prim.Native.Nat.{◌+◌, ◌-◌}
use borrow.Author.Rules.{rules}
use borrow.Author.Tests.{not-false, not-true}
use mathlib.Core.List.{map}
use mathlib.Core.Path.{◌∙◌, ◌≡◌, sym}
use native.Mathlib.Omega.{arith}
use Rattle.definitions.specs.Lists.{all_of, numbers_from}
use Rattle.marker_groups.specs.Markers.{column}
use Rattle.marker_sums.proofs.Steps.{met_end, met_fails, met_next, met_start}
use Rattle.marker_sums.specs.Sums.{is_set, met_after}
use Rattle.marker_sums.proofs.all_met.Goals as goal

pub loop-j-init : goal.loop-j-init
loop-j-init c = met_start _ _ _ _ (c.column-names.ensures)

pub overflow_add-j : goal.overflow_add-j
overflow_add-j c = omega (arith, c.loop-j-test.true, c.requires, c.column-names.ensures)

pub returns-then-not-is_set : goal.returns-then-not-is_set
unfolding is_set
returns-then-not-is_set c = met_fails _ _ _ _ _ (c.loop-j.invariant) (c.loop-j-test.true) (rw (c.column-named.ensures) at (sym (c.is_set.ensures) ∙ c.if-not-is_set.true))

pub overflow_step-j : goal.overflow_step-j
overflow_step-j c = omega (arith, c.loop-j-test.true, c.requires, c.column-names.ensures)

pub loop-j-smaller : goal.loop-j-smaller
loop-j-smaller c = omega (arith, c.loop-j-test.true)

pub loop-j-preserved : goal.loop-j-preserved
unfolding is_set
loop-j-preserved c = met_next _ _ _ _ _ (c.loop-j.invariant) (c.loop-j-test.true) (rw (c.column-named.ensures) at (sym (c.is_set.ensures) ∙ c.if-not-is_set.false))

pub returns : goal.returns
returns c = met_end _ _ _ _ _ (c.loop-j.invariant) (c.loop-j-test.false)
