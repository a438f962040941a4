-- Field by field, each compared with REF.
use Prim.Native.Nat.{◌-◌}
use borrow.Author.Rules.{rules}
use lib.ListN.{length, length-map}
use mathlib.Core.List.{map}
use native.Mathlib.Omega.{arith}
use Rattle.definitions.specs.Alleles.{capital}
use Rattle.kv_text.proofs.Fields.{field_within}
use Rattle.reverse_trim.proofs.ClipCount.{ClipLeft, clip_done, clip_more, clip_start, over_none}
use Rattle.reverse_trim.proofs.common_clip.Goals as goal

pub returns-then-reference-eq0 : goal.returns-then-reference-eq0
returns-then-reference-eq0 c = over_none _ (simp length-map c.if-reference-eq0.true) _

pub loop-clip-init : goal.loop-clip-init
loop-clip-init c = clip_start _ _ (simp length-map)

pub slice_bounds-clip_with-end : goal.slice_bounds-clip_with-end
slice_bounds-clip_with-end c = let h = field_within _ _ _ _ (c.field_end-end.ensures) (c.loop-clip.invariant.within) in search rules

pub returns-then-alts-end : goal.returns-then-alts-end
returns-then-alts-end c = clip_done _ _ c.loop-clip.invariant (c.field_end-end.ensures) (c.clip_with-clip.ensures) c.if-alts-end.true

pub loop-clip-smaller : goal.loop-clip-smaller
loop-clip-smaller c = omega (arith, c.field_end-end.ensures)

pub loop-clip-preserved : goal.loop-clip-preserved
loop-clip-preserved c = clip_more _ _ c.loop-clip.invariant (c.field_end-end.ensures) (c.clip_with-clip.ensures) c.if-alts-end.false
