-- Three lines: a contig, and two numbers in order.
use mathlib.Core.Path.{◌∙◌}
use native.Mathlib.Omega.{arith}
use Rattle.clip_and_reference.proofs.ThreeLines.{clip_group, first_unread, group_read, number_zero, out_of_order, part_read, second_unread, third_unread, three_lines}
use Rattle.clip_and_reference.specs.Groups.{SpanRead}
use Rattle.definitions.specs.Bytes.{text}
use Rattle.definitions.specs.ClipAndReference.{span_of}
use Rattle.definitions.specs.Lines.{key_of}
use Rattle.definitions.specs.Numbers.{name, number}
use Rattle.kv_text.proofs.Lines.{line_within}
use Rattle.clip_and_reference.proofs.span_at.Goals as goal

pub returns-in_err-contig : goal.returns-in_err-contig
unfolding key_of text SpanRead span_of three_lines
returns-in_err-contig c = rw c.from_residual.ensures (first_unread clip_group _ _ c.in_err-contig.ensures.0)

pub overflow_add-contig : goal.overflow_add-contig
overflow_add-contig c = omega (arith, line_within _ _ _ name _ _ c.in_ok-contig.ensures.0)

pub returns-in_err-start : goal.returns-in_err-start
unfolding key_of text SpanRead span_of three_lines
returns-in_err-start c = rw c.from_residual-in_err-start.ensures (second_unread clip_group _ _ _ _ c.in_ok-contig.ensures.0 c.in_err-start.ensures)

pub overflow_add-start_end : goal.overflow_add-start_end
overflow_add-start_end c = omega (arith, line_within _ _ _ number _ _ c.in_ok-start.ensures)

pub returns-in_err-end : goal.returns-in_err-end
unfolding key_of text SpanRead span_of three_lines
returns-in_err-end c =
    rw c.from_residual-in_err-end.ensures
    (third_unread clip_group _ _ _ _ c.in_ok-contig.ensures.0 _ _ c.in_ok-start.ensures c.in_err-end.ensures)

pub returns-then-start-lt1 : goal.returns-then-start-lt1
unfolding key_of text SpanRead span_of three_lines
returns-then-start-lt1 c =
    number_zero clip_group _ _ _ _ c.in_ok-contig.ensures.0 _ _ c.in_ok-start.ensures _ _ c.in_ok-end.ensures (omega (arith, c.if-start-lt1.true))

pub returns-then-end-start : goal.returns-then-end-start
unfolding key_of text SpanRead span_of three_lines
returns-then-end-start c =
    out_of_order clip_group _ _ _ _ c.in_ok-contig.ensures.0 _ _ c.in_ok-start.ensures _ _ c.in_ok-end.ensures (omega (arith, c.if-end-start.true))

pub overflow_add-next : goal.overflow_add-next
overflow_add-next c = omega (arith, line_within _ _ _ number _ _ c.in_ok-end.ensures)

pub returns : goal.returns
unfolding key_of text SpanRead span_of three_lines
returns c =
    let l = c.in_ok-contig.ensures in
    let read =
    group_read clip_group _ _ _ _ l.0 _ _ c.in_ok-start.ensures _ _ c.in_ok-end.ensures (omega (arith, c.if-start-lt1.false))
    (omega (arith, c.if-end-start.false)) in
    let is-start = c.new-loc.ensures.0 ∙ c.new_1based-first.ensures in
    let is-end = c.new-loc.ensures.1 ∙ c.new_1based-last.ensures in
    (rw (is-start, is-end) read, part_read _ _ _ name _ _ _ l.0 l.1)
