-- Field by field.
use Prim.Native.Nat.{◌-◌}
use borrow.Author.Rules.{rules}
use lib.ListN.{length, length-set}
use native.Mathlib.Omega.{arith}
use mathlib.Core.Path.{refl}
use Rattle.sample_alleles.proofs.Fields.{Unsplit, all_split, all_unsplit, next_unsplit, room_here}
use Rattle.sample_alleles.proofs.split_alts.Goals as goal

pub loop-at-init : goal.loop-at-init
loop-at-init c = all_unsplit _ _

pub overflow_mul-fields : goal.overflow_mul-fields
overflow_mul-fields c = omega (arith, room_here _ _ c.requires (c.loop-at.invariant))

pub offset_bounds-fields-count : goal.offset_bounds-fields-count
offset_bounds-fields-count c = omega (arith, room_here _ _ c.requires (c.loop-at.invariant))

pub bounds-fields-count : goal.bounds-fields-count
bounds-fields-count c = omega (arith, room_here _ _ c.requires (c.loop-at.invariant))

pub overflow_mul-fields-in-loop-at : goal.overflow_mul-fields-in-loop-at
overflow_mul-fields-in-loop-at c = omega (arith, room_here _ _ c.requires (c.loop-at.invariant))

pub overflow_add-fields : goal.overflow_add-fields
overflow_add-fields c = omega (arith, room_here _ _ c.requires (c.loop-at.invariant))

pub offset_bounds-fields-count-in-loop-at : goal.offset_bounds-fields-count-in-loop-at
offset_bounds-fields-count-in-loop-at c = omega (arith, room_here _ _ c.requires (c.loop-at.invariant))

pub bounds-fields-count-in-loop-at : goal.bounds-fields-count-in-loop-at
bounds-fields-count-in-loop-at c = simp length-set (room_here _ _ c.requires (c.loop-at.invariant))

pub overflow_add-count : goal.overflow_add-count
overflow_add-count c = omega (arith, room_here _ _ c.requires (c.loop-at.invariant))

pub returns-then-alts-end : goal.returns-then-alts-end
returns-then-alts-end c = all_split _ _ c.requires (c.loop-at.invariant) _ (c.field_end-end.ensures) refl (c.if-alts-end.true)

pub loop-at-smaller : goal.loop-at-smaller
loop-at-smaller c = omega (arith, c.field_end-end.ensures)

pub loop-at-preserved : goal.loop-at-preserved
loop-at-preserved c = next_unsplit _ _ c.requires (c.loop-at.invariant) _ (c.field_end-end.ensures) refl (c.if-alts-end.false)
