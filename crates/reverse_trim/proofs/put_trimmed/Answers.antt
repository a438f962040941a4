-- The fields from `at` on are left.
use Prim.Native.Nat.{◌-◌}
use borrow.Author.Rules.{rules}
use lib.ListN.{length}
use mathlib.Core.Path.{◌∙◌}
use native.Mathlib.Omega.{arith}
use Rattle.kv_text.proofs.Fields.{field_within}
use Rattle.kv_write.proofs.Laying.{left_length}
use Rattle.reverse_trim.proofs.Trimmed.{TrimmedLeft, comma_room, field_done, field_more, field_room, trimmed_start}
use Rattle.reverse_trim.specs.LetterAlleles.{alleles_spelled}
use Rattle.reverse_trim.proofs.put_trimmed.Goals as goal

pub loop-clip-init : goal.loop-clip-init
loop-clip-init c = trimmed_start _ _ _ (omega arith)

pub slice_bounds-without_suffix-end : goal.slice_bounds-without_suffix-end
slice_bounds-without_suffix-end c = let h = field_within _ _ _ _ (c.field_end-end.ensures) (c.loop-clip.invariant.within) in search rules

pub put_letters-next-requires : goal.put_letters-next-requires
put_letters-next-requires c = rw (c.without_suffix-trimmed.ensures) (field_room _ _ _ c.loop-clip.invariant _ (c.field_end-end.ensures))

pub shape_of-out-then-list-end : goal.shape_of-out-then-list-end
shape_of-out-then-list-end c = c.put_letters-next.auto.out ∙ left_length (c.loop-clip.invariant.left)

pub returns-then-list-end : goal.returns-then-list-end
unfolding alleles_spelled
returns-then-list-end c = field_done _ _ _ c.loop-clip.invariant _ (c.field_end-end.ensures) (rw (c.without_suffix-trimmed.ensures) at (c.put_letters-next.ensures)) c.if-list-end.true

pub put_byte-next-requires : goal.put_byte-next-requires
put_byte-next-requires c = comma_room _ _ _ c.loop-clip.invariant _ (c.field_end-end.ensures) (rw (c.without_suffix-trimmed.ensures) at (c.put_letters-next.ensures)) c.if-list-end.false

pub loop-clip-smaller : goal.loop-clip-smaller
loop-clip-smaller c = omega (arith, c.field_end-end.ensures)

pub loop-clip-preserved : goal.loop-clip-preserved
loop-clip-preserved c = field_more _ _ _ c.loop-clip.invariant _ (c.field_end-end.ensures) (rw (c.without_suffix-trimmed.ensures) at (c.put_letters-next.ensures)) c.if-list-end.false (c.put_byte-next.ensures)
