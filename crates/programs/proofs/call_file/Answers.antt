-- By whether the file is too long.
use borrow.Author.Rules.{rules}
use mathlib.Core.Path.{◌∙◌, refl, sym}
use native.Mathlib.Omega.{arith}
use Rattle.programs.proofs.Programs.{file_called, file_refused}
use Rattle.programs.proofs.call_file.Goals as goal

pub returns-then-is_too_long : goal.returns-then-is_too_long
returns-then-is_too_long c = let args = c.args in
    file_refused args.of_combined args.combined.now (sym c.is_too_long.ensures ∙ c.if-is_too_long.true) refl

pub returns : goal.returns
returns c = let args = c.args in
    file_called args.of_combined args.combined.now (sym c.is_too_long.ensures ∙ c.if-is_too_long.false)
    c.text.ensures (omega arith) c.call.ensures
