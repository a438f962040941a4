-- The answer, and then what it prints.
use Rattle.programs.proofs.Looks.{looks_printed}
use borrow.Author.Rules.{rules}
use Rattle.programs.proofs.looks_program.Goals as goal

pub returns : goal.returns
returns c = let answer = c.looks_files-looked in
    looks_printed _ _ _ _ answer.result answer.ensures c.put_looked.ensures
