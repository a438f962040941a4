-- One line after the other, each behind the one before it.
use native.Mathlib.Omega.{arith}
use Rattle.definitions.specs.Bytes.{text}
use Rattle.definitions.specs.Lines.{key_of}
use Rattle.definitions.specs.Numbers.{name, number}
use Rattle.kv_text.proofs.Lines.{line_within}
use Rattle.site_groups.proofs.SiteLines.{contig_wrong, end_wrong, place_read, site_wrong, start_wrong}
use Rattle.site_groups.proofs.site_place.Goals as goal

pub returns-in_err-sample : goal.returns-in_err-sample
unfolding key_of text
returns-in_err-sample c = rw c.from_residual.ensures (site_wrong _ _ c.in_err-sample.ensures)

pub overflow_add-e0 : goal.overflow_add-e0
overflow_add-e0 c = let h = line_within _ _ _ number _ _ c.in_ok-sample.ensures in omega arith

pub returns-in_err-contig : goal.returns-in_err-contig
unfolding key_of text
returns-in_err-contig c = rw c.from_residual-in_err-contig.ensures (contig_wrong _ _ _ _ c.in_ok-sample.ensures c.in_err-contig.ensures.0)

pub overflow_add-contig : goal.overflow_add-contig
overflow_add-contig c = let h = line_within _ _ _ name _ _ c.in_ok-contig.ensures.0 in omega arith

pub returns-in_err-start : goal.returns-in_err-start
unfolding key_of text
returns-in_err-start c = rw c.from_residual-in_err-start.ensures
    (start_wrong _ _ _ _ c.in_ok-sample.ensures _ c.in_ok-contig.ensures.0 c.in_ok-contig.ensures.1.forward c.in_err-start.ensures)

pub overflow_add-e2 : goal.overflow_add-e2
overflow_add-e2 c = let h = line_within _ _ _ number _ _ c.in_ok-start.ensures in omega arith

pub returns-in_err-end : goal.returns-in_err-end
unfolding key_of text
returns-in_err-end c = rw c.from_residual-in_err-end.ensures
    (end_wrong _ _ _ _ c.in_ok-sample.ensures _ c.in_ok-contig.ensures.0 c.in_ok-contig.ensures.1.forward
    _ _ c.in_ok-start.ensures c.in_err-end.ensures)

pub overflow_add-result : goal.overflow_add-result
overflow_add-result c = let h = line_within _ _ _ number _ _ c.in_ok-end.ensures in omega (arith, h, c.well_formed)

pub returns : goal.returns
unfolding key_of text
returns c = place_read _ _ _ _ c.in_ok-sample.ensures _ c.in_ok-contig.ensures.0 c.in_ok-contig.ensures.1.forward
    _ _ c.in_ok-start.ensures _ _ c.in_ok-end.ensures c.new.ensures c.new_1based.ensures c.new_1based-2.ensures
