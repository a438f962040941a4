-- The value of the line: `.`, or a list of numbers, which are stored.
use borrow.Author.Rules.{rules}
use mathlib.Core.Option.{some}
use mathlib.Core.Path.{◌∙◌, refl, sym}
use Rattle.definitions.specs.Bytes.{text}
use Rattle.definitions.specs.Numbers.{number_list, or_missing}
use Rattle.kv_text.proofs.Lines.{line_within, missing_dot, missing_none, missing_some, numbers_absent, numbers_there, read_absent, read_right, read_wrong}
use Rattle.kv_text.specs.Fields.{numbers_read}
use Rattle.kv_text.proofs.optional_numbers_line.Goals as goal

pub returns-in_err-value : goal.returns-in_err-value
returns-in_err-value c =
    let l = c.in_err-value.ensures.0 in
    rw c.from_residual.ensures (read_absent _ _ _ (or_missing number_list) l, tt, rw (numbers_absent _ _ _ l))

pub slice_bounds-same_bytes-end : goal.slice_bounds-same_bytes-end
slice_bounds-same_bytes-end c = let h = line_within _ _ _ some _ _ c.in_ok-value.ensures.0 in search rules

pub returns-then-same_bytes : goal.returns-then-same_bytes
unfolding text
returns-then-same_bytes c = (
  read_right _ _ _ (or_missing number_list) _ _ _ c.in_ok-value.ensures.0
      (missing_dot number_list _ (sym c.same_bytes.ensures ∙ c.if-same_bytes.true)),
  tt,
  refl,
)

pub slice_bounds-read_numbers-end : goal.slice_bounds-read_numbers-end
slice_bounds-read_numbers-end c = let h = line_within _ _ _ some _ _ c.in_ok-value.ensures.0 in search rules

pub returns-in_err-count : goal.returns-in_err-count
unfolding text numbers_read
returns-in_err-count c =
    let l = c.in_ok-value.ensures.0 in
    rw c.from_residual-in_err-count.ensures (
      read_wrong _ _ _ (or_missing number_list) _ _ l
          (missing_none number_list _ (sym c.same_bytes.ensures ∙ c.if-same_bytes.false) c.in_err-count.ensures.0),
      tt,
      rw (numbers_there _ _ _ _ _ l) c.in_err-count.ensures.1,
    )

pub returns : goal.returns
unfolding text numbers_read
returns c =
    let l = c.in_ok-value.ensures in
    let q = c.in_ok-count.ensures.0 in (
      read_right _ _ _ (or_missing number_list) _ _ _ l.0
          (missing_some number_list _ _ (sym c.same_bytes.ensures ∙ c.if-same_bytes.false) q.0),
      (l.1.forward, q.0, q.1),
      rw q.0 c.in_ok-count.ensures.1,
    )
