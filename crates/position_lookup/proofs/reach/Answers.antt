-- In each turn a group is read; what is left for the place is the same.
use Prim.Native.Nat.{◌-◌}
use lib.ListN.{length}
use mathlib.Core.Path.{◌∙◌, sym}
use native.Mathlib.Omega.{arith}
use Rattle.list_walk.specs.Walk.{SteppedFrom}
use Rattle.site_groups.proofs.Refusals.{err_is}
use Rattle.position_lookup.proofs.Reaching.{reaching_end, reaching_next, reaching_reached, reaching_refused, reaching_start}
use Rattle.position_lookup.specs.Found.{Reaches}
use Rattle.position_lookup.proofs.reach.Goals as goal

pub loop-header-init : goal.loop-header-init
loop-header-init c = λ before at. reaching_start _ _ _ _ before at

pub returns-then-is_reached : goal.returns-then-is_reached
unfolding Reaches
returns-then-is_reached c = λ before at. reaching_reached _ _ _ _ (c.loop-header.invariant before at) (sym c.is_reached.ensures ∙ c.if-is_reached.true)

pub returns-in_err-place : goal.returns-in_err-place
unfolding Reaches SteppedFrom
returns-in_err-place c =
    rw (err_is _ _ c.from_residual.ensures.1)
    (λ before at. reaching_refused _ _ _ _ (c.loop-header.invariant before at) (sym c.is_reached.ensures ∙ c.if-is_reached.false) c.in_err-place.ensures)

pub returns-in_default : goal.returns-in_default
unfolding Reaches SteppedFrom
returns-in_default c = λ before at. reaching_end _ _ _ _ (c.loop-header.invariant before at) (rw c.in_default.is at c.in_ok-place.ensures)

pub loop-header-smaller : goal.loop-header-smaller
unfolding SteppedFrom
loop-header-smaller c = let r = rw c.in-Some.is at c.in_ok-place.ensures in omega (arith, r.forward, r.within)

pub loop-header-preserved : goal.loop-header-preserved
unfolding SteppedFrom
loop-header-preserved c = λ before at. reaching_next _ _ _ _ (c.loop-header.invariant before at) (sym c.is_reached.ensures ∙ c.if-is_reached.false)
    (rw c.in-Some.is at c.in_ok-place.ensures)
