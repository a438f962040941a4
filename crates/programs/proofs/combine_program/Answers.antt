-- The answer, and then what it prints.
use borrow.Author.Rules.{rules}
use Rattle.files.proofs.Printing.{row_printed}
use Rattle.programs.proofs.Programs.{combine_printed}
use Rattle.programs.proofs.combine_program.Goals as goal

pub returns : goal.returns
returns c = let answer = c.combine_files-outcome in
    combine_printed _ _ _ answer.result answer.ensures (row_printed answer.result c.put_answer.ensures)
