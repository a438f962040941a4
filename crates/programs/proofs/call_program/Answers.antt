-- The answer, and then what it prints.
use borrow.Author.Rules.{rules}
use Rattle.files.proofs.Printing.{answered_printed, row_printed}
use Rattle.programs.proofs.call_program.Goals as goal

pub returns : goal.returns
returns c = let answer = c.call_file-outcome in
    answered_printed _ answer.result answer.ensures (row_printed answer.result c.put_answer.ensures)
