-- The value of the line: `.`, or a number.
use borrow.Author.Rules.{rules}
use mathlib.Core.Option.{some}
use mathlib.Core.Path.{◌∙◌, sym}
use Rattle.definitions.specs.Bytes.{text}
use Rattle.definitions.specs.Numbers.{number, or_missing}
use Rattle.kv_text.proofs.Lines.{line_within, missing_dot, missing_none, missing_some, read_absent, read_right, read_wrong}
use Rattle.kv_text.proofs.optional_number_line.Goals as goal

pub returns-in_err-value : goal.returns-in_err-value
returns-in_err-value c = rw c.from_residual.ensures (read_absent _ _ _ (or_missing number) c.in_err-value.ensures.0)

pub slice_bounds-same_bytes-end : goal.slice_bounds-same_bytes-end
slice_bounds-same_bytes-end c = let h = line_within _ _ _ some _ _ c.in_ok-value.ensures.0 in search rules

pub returns-then-same_bytes : goal.returns-then-same_bytes
unfolding text
returns-then-same_bytes c =
    read_right _ _ _ (or_missing number) _ _ _ c.in_ok-value.ensures.0 (missing_dot number _ (sym c.same_bytes.ensures ∙ c.if-same_bytes.true))

pub slice_bounds-read_number-end : goal.slice_bounds-read_number-end
slice_bounds-read_number-end c = let h = line_within _ _ _ some _ _ c.in_ok-value.ensures.0 in search rules

pub returns-in_err-n : goal.returns-in_err-n
unfolding text
returns-in_err-n c =
    rw c.from_residual-in_err-n.ensures
    (read_wrong _ _ _ (or_missing number) _ _ c.in_ok-value.ensures.0
    (missing_none number _ (sym c.same_bytes.ensures ∙ c.if-same_bytes.false) (sym c.in_err-n.ensures)))

pub returns : goal.returns
unfolding text
returns c =
    read_right _ _ _ (or_missing number) _ _ _ c.in_ok-value.ensures.0
    (missing_some number _ _ (sym c.same_bytes.ensures ∙ c.if-same_bytes.false) (sym c.in_ok-n.ensures))
