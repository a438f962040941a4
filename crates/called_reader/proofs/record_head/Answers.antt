-- One line after the other, each behind the one before it.
use mathlib.Core.Option.{some}
use native.Mathlib.Omega.{arith}
use Rattle.definitions.specs.Bytes.{text}
use Rattle.definitions.specs.Lines.{key_of}
use Rattle.definitions.specs.Numbers.{name, number}
use Rattle.kv_text.proofs.Lines.{line_within}
use Rattle.called_reader.proofs.RecordLines.{alt_wrong, contig_wrong, head_read, pos_wrong, ref_wrong}
use Rattle.called_reader.proofs.record_head.Goals as goal

pub returns-in_err-contig : goal.returns-in_err-contig
unfolding key_of text
returns-in_err-contig c = rw c.from_residual.ensures (contig_wrong _ _ c.in_err-contig.ensures.0)

pub overflow_add-contig : goal.overflow_add-contig
overflow_add-contig c = let h = line_within _ _ _ name _ _ c.in_ok-contig.ensures.0 in omega arith

pub returns-in_err-pos : goal.returns-in_err-pos
unfolding key_of text
returns-in_err-pos c = rw c.from_residual-in_err-pos.ensures (pos_wrong _ _ _ c.in_ok-contig.ensures.0 c.in_err-pos.ensures)

pub overflow_add-e1 : goal.overflow_add-e1
overflow_add-e1 c = let h = line_within _ _ _ number _ _ c.in_ok-pos.ensures in omega arith

pub returns-in_err-refs : goal.returns-in_err-refs
unfolding key_of text
returns-in_err-refs c = rw c.from_residual-in_err-refs.ensures
    (ref_wrong _ _ _ c.in_ok-contig.ensures.0 _ _ c.in_ok-pos.ensures c.in_err-refs.ensures.0)

pub overflow_add-refs : goal.overflow_add-refs
overflow_add-refs c = let h = line_within _ _ _ some _ _ c.in_ok-refs.ensures.0 in omega arith

pub returns-in_err-alts : goal.returns-in_err-alts
unfolding key_of text
returns-in_err-alts c = rw c.from_residual-in_err-alts.ensures
    (alt_wrong _ _ _ c.in_ok-contig.ensures.0 _ _ c.in_ok-pos.ensures _ c.in_ok-refs.ensures.0 c.in_err-alts.ensures.0)

pub overflow_add-next : goal.overflow_add-next
overflow_add-next c = let h = line_within _ _ _ some _ _ c.in_ok-alts.ensures.0 in omega (arith, h, c.well_formed)

pub returns : goal.returns
unfolding key_of text
returns c = head_read _ _ _ c.in_ok-contig.ensures.0 _ _ c.in_ok-pos.ensures _ c.in_ok-refs.ensures.0 _ c.in_ok-alts.ensures.0 c.new_1based.ensures
