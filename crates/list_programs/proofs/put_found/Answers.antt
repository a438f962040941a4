-- The lines of the numbers, and then the one of the groups.
use Rattle.definitions.specs.Bytes.{text}
use Rattle.files.proofs.Printing.{laid_printed}
use Rattle.list_programs.proofs.FoundLines.{found_short, groups_laid, groups_room}
use borrow.Author.Rules.{rules}
use native.Mathlib.Omega.{arith}
use Rattle.list_programs.proofs.put_found.Goals as goal

pub put_number_line-requires : goal.put_number_line-requires
unfolding text
put_number_line-requires c = groups_room _ _ c.put_records-at.ensures c.requires (omega arith)

pub returns : goal.returns
unfolding text
returns c = let short = found_short c.args.numbers.now c.args.groups c.requires (omega arith) in
    laid_printed (omega arith) (groups_laid _ _ c.put_records-at.ensures c.put_number_line.ensures)
