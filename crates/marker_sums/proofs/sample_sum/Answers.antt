-- The loop's invariant: the sum of all is the sum so far and that of the markers left.
use Prim.Native.Nat.{◌-◌, ℕ}
use borrow.Author.Rules.{rules}
use lib.ListN.{length-replicate}
use mathlib.Core.Path.{sym}
use native.Mathlib.Omega.{arith}
use Rattle.marker_sums.proofs.Steps.{Summing, flag_is, light_weight, summing_end, summing_next, summing_start}
use Rattle.marker_sums.specs.Sums.{none_met}
use Rattle.marker_sums.proofs.sample_sum.Goals as goal

pub loop-marker-init : goal.loop-marker-init
unfolding none_met
loop-marker-init c = summing_start _ _ _ _ (length-replicate {A = ℕ} 500 0)

pub slice_bounds-is_met-end : goal.slice_bounds-is_met-end
slice_bounds-is_met-end c = sym c.loop-marker.invariant.long

pub is_met-is-requires : goal.is_met-is-requires
is_met-is-requires c = c.requires.sound.after_few _ (c.loop-marker-test.true)

pub overflow_add-sum : goal.overflow_add-sum
overflow_add-sum c = let ready = c.requires in
    let few = ready.sound.few in
    let taken = c.loop-marker-test.true in
    let light = light_weight c.is_met-is.result _ _ c.weighed-sum.ensures (ready.light _ taken) in
    omega (arith, c.loop-marker.invariant.small, taken, few, light)

pub overflow_step-marker : goal.overflow_step-marker
overflow_step-marker c = omega (arith, c.loop-marker-test.true, c.ranges.count)

pub loop-marker-smaller : goal.loop-marker-smaller
loop-marker-smaller c = omega (arith, c.loop-marker-test.true)

pub loop-marker-preserved : goal.loop-marker-preserved
loop-marker-preserved c = summing_next c.loop-marker.invariant c.requires (c.loop-marker-test.true) _ (c.is_met-is.ensures) _ _ (flag_is c.is_met-is.result) (c.weighed-sum.ensures)

pub returns : goal.returns
returns c = summing_end c.loop-marker.invariant (c.loop-marker-test.false)
