-- What the extent becomes along all records is what it becomes along those that are left.
use Prim.Native.Nat.{◌-◌}
use lib.ListN.{length}
use mathlib.Core.Path.{◌∙◌, sym}
use native.Mathlib.Omega.{arith}
use Rattle.list_walk.specs.Walk.{SteppedFrom}
use Rattle.site_groups.proofs.Refusals.{err_is}
use Rattle.depth_windows.proofs.Places.{place_span_lem}
use Rattle.depth_windows.proofs.Walking.{walk_end, walk_next, walk_refused, walk_start}
use Rattle.depth_windows.specs.Along.{extent_span}
use Rattle.depth_windows.proofs.contig_extent.Goals as goal

pub loop-place-init : goal.loop-place-init
loop-place-init c = rw (c.first_group-cursor.ensures) (walk_start _ _ _ _)

pub returns-in_err-place : goal.returns-in_err-place
unfolding SteppedFrom
returns-in_err-place c = rw (err_is _ _ c.from_residual.ensures.1) (sym (walk_refused _ _ _ c.loop-place.invariant c.in_err-place.ensures))

pub loop-place-smaller : goal.loop-place-smaller
unfolding SteppedFrom
loop-place-smaller c = let r = rw c.in-Some.is at c.in_ok-place.ensures in omega (arith, r.forward, r.within)

pub loop-place-preserved : goal.loop-place-preserved
unfolding SteppedFrom
loop-place-preserved c =
    let r = rw c.in-Some.is at c.in_ok-place.ensures in
    rw (c.extent_with-extent.ensures ∙ place_span_lem r.to c.args.contig.now (extent_span c.loop-place.extent))
    (walk_next _ _ _ c.loop-place.invariant r)

pub returns : goal.returns
unfolding SteppedFrom
returns c = sym (walk_end _ _ _ c.loop-place.invariant (rw c.in_default.is at c.in_ok-place.ensures))
