-- One line after the other, each behind the one before it.
use native.Mathlib.Omega.{arith}
use Rattle.definitions.specs.Bytes.{text}
use Rattle.definitions.specs.Lines.{key_of}
use Rattle.definitions.specs.Numbers.{max_number, name}
use Rattle.definitions.specs.SelectionSheet.{names_after, number_in, wanted_allele}
use Rattle.kv_text.proofs.Lines.{line_within}
use Rattle.marker_groups.proofs.MarkerGroup.{after_wrong, allele_wrong, contig_wrong, lines_read, marker_wrong, pos_wrong, weight_wrong}
use Rattle.marker_groups.proofs.Values.{line_few}
use Rattle.marker_groups.proofs.marker_lines.Goals as goal

pub returns-in_err-name : goal.returns-in_err-name
unfolding key_of text
returns-in_err-name c = rw c.from_residual.ensures (marker_wrong _ _ c.in_err-name.ensures.0)

pub overflow_add-name : goal.overflow_add-name
overflow_add-name c = let h = line_within _ _ _ name _ _ c.in_ok-name.ensures.0 in omega arith

pub returns-in_err-contig : goal.returns-in_err-contig
unfolding key_of text
returns-in_err-contig c = rw c.from_residual-in_err-contig.ensures (contig_wrong _ _ _ c.in_ok-name.ensures.0 c.in_err-contig.ensures.0)

pub overflow_add-contig : goal.overflow_add-contig
overflow_add-contig c = let h = line_within _ _ _ name _ _ c.in_ok-contig.ensures.0 in omega arith

pub returns-in_err-pos : goal.returns-in_err-pos
unfolding key_of text max_number
returns-in_err-pos c =
    rw c.from_residual-in_err-pos.ensures (pos_wrong _ _ _ c.in_ok-name.ensures.0 _ c.in_ok-contig.ensures.0 c.in_err-pos.ensures)

pub overflow_add-pos_end : goal.overflow_add-pos_end
overflow_add-pos_end c = let h = line_within _ _ _ (number_in 1 2147483647) _ _ c.in_ok-pos.ensures in omega arith

pub returns-in_err-allele : goal.returns-in_err-allele
unfolding key_of text max_number
returns-in_err-allele c = rw c.from_residual-in_err-allele.ensures
    (allele_wrong _ _ _ c.in_ok-name.ensures.0 _ c.in_ok-contig.ensures.0 _ _ c.in_ok-pos.ensures c.in_err-allele.ensures)

pub overflow_add-allele : goal.overflow_add-allele
overflow_add-allele c = let h = line_within _ _ _ wanted_allele _ _ c.in_ok-allele.ensures in omega arith

pub returns-in_err-weight : goal.returns-in_err-weight
unfolding key_of text max_number
returns-in_err-weight c = rw c.from_residual-in_err-weight.ensures
    (weight_wrong _ _ _ c.in_ok-name.ensures.0 _ c.in_ok-contig.ensures.0 _ _ c.in_ok-pos.ensures _ c.in_ok-allele.ensures
    c.in_err-weight.ensures)

pub overflow_add-weight_end : goal.overflow_add-weight_end
overflow_add-weight_end c = let h = line_within _ _ _ (number_in 1 100) _ _ c.in_ok-weight.ensures in omega (arith, h, c.well_formed)

pub returns-in_err-after : goal.returns-in_err-after
unfolding key_of text max_number
returns-in_err-after c = rw c.from_residual-in_err-after.ensures
    (after_wrong _ _ _ c.in_ok-name.ensures.0 _ c.in_ok-contig.ensures.0 _ _ c.in_ok-pos.ensures _ c.in_ok-allele.ensures
    _ _ c.in_ok-weight.ensures c.in_err-after.ensures)

pub overflow_add-next : goal.overflow_add-next
overflow_add-next c = let h = line_within _ _ _ names_after _ _ c.in_ok-after.ensures in omega (arith, h, c.well_formed)

pub returns : goal.returns
unfolding key_of text max_number
returns c =
    lines_read _ _ _ c.in_ok-name.ensures.0 _ c.in_ok-contig.ensures.0 _ _ c.in_ok-pos.ensures _ c.in_ok-allele.ensures
    _ _ c.in_ok-weight.ensures _ c.in_ok-after.ensures (line_few _ _ _ _ _ c.in_ok-after.ensures)
