-- A figure or a refusal, laid over the start of the line.
use native.Mathlib.Omega.{arith}
use Rattle.files.proofs.Printing.{figure_short, laid_printed, refusal_same, refusal_short}
use borrow.Author.Rules.{rules}
use Rattle.programs.proofs.put_looked.Goals as goal

pub returns-in-Ok : goal.returns-in-Ok
returns-in-Ok c =
    rw c.in-Ok.is (laid_printed (omega (arith, figure_short c.in-Ok.figure (omega arith))) c.put_figure.ensures)

pub returns-in-Err : goal.returns-in-Err
returns-in-Err c =
    rw (c.in-Err.is, ← c.row.ensures, refusal_same c.row.result)
    (laid_printed (omega (arith, refusal_short c.row.result (omega arith))) c.put_refusal.ensures)
