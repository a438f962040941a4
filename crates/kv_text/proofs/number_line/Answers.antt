-- The value of the line, read as a number.
use borrow.Author.Rules.{rules}
use mathlib.Core.Option.{some}
use mathlib.Core.Path.{sym}
use Rattle.definitions.specs.Numbers.{number}
use Rattle.kv_text.proofs.Lines.{line_within, read_absent, read_right, read_wrong}
use Rattle.kv_text.proofs.number_line.Goals as goal

pub returns-in_err-value : goal.returns-in_err-value
returns-in_err-value c = rw c.from_residual.ensures (read_absent _ _ _ number c.in_err-value.ensures.0)

pub slice_bounds-read_number-end : goal.slice_bounds-read_number-end
slice_bounds-read_number-end c = let h = line_within _ _ _ some _ _ c.in_ok-value.ensures.0 in search rules

pub returns-in_err-n : goal.returns-in_err-n
returns-in_err-n c = rw c.from_residual-in_err-n.ensures (read_wrong _ _ _ number _ _ c.in_ok-value.ensures.0 (sym c.in_err-n.ensures))

pub returns : goal.returns
returns c = read_right _ _ _ number _ _ _ c.in_ok-value.ensures.0 (sym c.in_ok-n.ensures)
