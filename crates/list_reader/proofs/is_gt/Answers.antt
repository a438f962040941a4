-- By the fields, one after the other.
use mathlib.Core.Path.{◌∙◌, sym}
use native.Mathlib.Omega.{arith}
use Rattle.list_reader.proofs.Genotype.{gt_high_wrong, gt_low_wrong, gt_one, gt_three, gt_two}
use Rattle.list_reader.proofs.is_gt.Goals as goal

pub returns-then-value-slash : goal.returns-then-value-slash
returns-then-value-slash c = gt_one _ _ _ c.field_end-slash.ensures c.if-value-slash.true

pub returns-then-end-value : goal.returns-then-end-value
returns-then-end-value c = gt_three _ _ _ c.field_end-slash.ensures (omega arith) _ c.field_end-end.ensures c.if-end-value.true

pub returns-in_default : goal.returns-in_default
returns-in_default c = gt_low_wrong _ _ _ c.field_end-slash.ensures (omega arith) _ c.field_end-end.ensures c.if-end-value.false (rw (c.part.ensures, c.in_default.is) at (sym c.read_number.ensures))

pub returns-in_default-read_number : goal.returns-in_default-read_number
returns-in_default-read_number c = gt_high_wrong _ _ _ c.field_end-slash.ensures (omega arith) _ c.field_end-end.ensures c.if-end-value.false _ (rw (c.part.ensures, c.in-Some.is) at (sym c.read_number.ensures)) (rw (c.part-2.ensures, c.in_default-read_number.is) at (sym c.read_number-2.ensures))

pub returns : goal.returns
returns c = c.is_pair.ensures ∙ gt_two _ _ _ c.field_end-slash.ensures (omega arith) _ c.field_end-end.ensures c.if-end-value.false _ (rw (c.part.ensures, c.in-Some.is) at (sym c.read_number.ensures)) _ (rw (c.part-2.ensures, c.in-Some-read_number.is) at (sym c.read_number-2.ensures))
