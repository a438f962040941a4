-- Field by field.
use Prim.Native.Nat.{◌-◌}
use borrow.Author.Rules.{rules}
use lib.ListN.{length}
use mathlib.Core.Path.{◌∙◌}
use native.Mathlib.Omega.{arith}
use Rattle.called_lines.proofs.Alts.{AltsLeft, alts_done, alts_next, alts_start, field_fits}
use Rattle.definitions.specs.Bytes.{text}
use Rattle.kv_text.proofs.Fields.{field_within}
use Rattle.kv_write.proofs.Laying.{left_length}
use Rattle.called_lines.proofs.alleles_without_non_ref.Goals as goal

pub loop-at-init : goal.loop-at-init
loop-at-init c = alts_start _ (c.requires)

pub slice_bounds-same_bytes-end : goal.slice_bounds-same_bytes-end
slice_bounds-same_bytes-end c = let h = field_within _ _ _ _ (c.field_end-end.ensures) (c.loop-at.invariant.within) in search rules

pub slice_bounds-put_alt-end : goal.slice_bounds-put_alt-end
slice_bounds-put_alt-end c = let h = field_within _ _ _ _ (c.field_end-end.ensures) (c.loop-at.invariant.within) in search rules

pub put_alt-next-requires : goal.put_alt-next-requires
unfolding text
put_alt-next-requires c = field_fits _ (c.loop-at.invariant) (c.field_end-end.ensures) (c.same_bytes-dropped.ensures)

pub shape_of-out-then-alts-end : goal.shape_of-out-then-alts-end
shape_of-out-then-alts-end c = (c.put_alt-next.auto.out) ∙ left_length (c.loop-at.invariant.left)

pub returns-then-alts-end : goal.returns-then-alts-end
unfolding text
returns-then-alts-end c = alts_done _ (c.loop-at.invariant) (c.field_end-end.ensures) (c.same_bytes-dropped.ensures) (c.put_alt-next.ensures)
    (c.if-alts-end.true)

pub loop-at-smaller : goal.loop-at-smaller
loop-at-smaller c = omega (arith, c.field_end-end.ensures)

pub loop-at-preserved : goal.loop-at-preserved
unfolding text
loop-at-preserved c = alts_next _ (c.loop-at.invariant) (c.field_end-end.ensures) (c.same_bytes-dropped.ensures) (c.put_alt-next.ensures) (omega arith) (c.any_laid-others.ensures)
