-- Field by field.
use borrow.Author.Rules.{rules}
use mathlib.Core.Path.{◌∙◌, refl}
use native.Mathlib.Omega.{arith}
use Rattle.definitions.specs.Bytes.{comma}
use Rattle.kv_text.proofs.Fields.{field_within}
use Rattle.merged_alleles.proofs.Turns.{field_short, fields_done, fields_more, fields_too_many}
use Rattle.merged_alleles.specs.Alts.{Added}
use Rattle.merged_alleles.proofs.extend_alleles.Goals as goal

pub loop-laid-init : goal.loop-laid-init
unfolding comma
loop-laid-init c = record { listing = c.requires.0; within = omega arith; short = c.requires.1; same = refl; sized = refl }

pub slice_bounds-extend_allele-end : goal.slice_bounds-extend_allele-end
slice_bounds-extend_allele-end c = let h = field_within _ _ _ _ (c.field_end-stop.ensures) (c.loop-laid.invariant.within) in search rules

pub extend_allele-requires : goal.extend_allele-requires
extend_allele-requires c = (c.loop-laid.invariant.listing, field_short _ _ _ c.loop-laid.invariant (c.field_end-stop.ensures), c.requires.2)

pub shape_of-alts-in_err-laid : goal.shape_of-alts-in_err-laid
shape_of-alts-in_err-laid c = c.extend_allele.auto.alts ∙ c.loop-laid.invariant.sized

pub returns-in_err-laid : goal.returns-in_err-laid
unfolding Added
returns-in_err-laid c = rw c.from_residual.ensures (fields_too_many _ _ _ c.loop-laid.invariant c.field_end-stop.ensures c.in_err-laid.ensures)

pub shape_of-alts-then-list-stop : goal.shape_of-alts-then-list-stop
shape_of-alts-then-list-stop c = c.extend_allele.auto.alts ∙ c.loop-laid.invariant.sized

pub returns-then-list-stop : goal.returns-then-list-stop
unfolding Added
returns-then-list-stop c = fields_done _ _ _ c.loop-laid.invariant (c.field_end-stop.ensures) c.in_ok-laid.ensures c.if-list-stop.true

pub loop-laid-smaller : goal.loop-laid-smaller
loop-laid-smaller c = omega (arith, c.field_end-stop.ensures)

pub loop-laid-preserved : goal.loop-laid-preserved
unfolding Added
loop-laid-preserved c = fields_more _ _ _ c.loop-laid.invariant (c.field_end-stop.ensures) c.in_ok-laid.ensures (omega arith) (c.extend_allele.auto.alts)
