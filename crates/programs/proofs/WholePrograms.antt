-- For files that were read whole, what is printed is what the definitions say.
use Rattle.definitions.specs.Answers.{call_program, combine_program, looks_program}
use Rattle.files.proofs.FileTexts.{read_whole}
use Rattle.programs.specs.WholePrograms.{CallWhole, CombineWhole, LooksWhole}

pub combine_whole : CombineWhole
unfolding combine_program
combine_whole cohort clip reference first second third r s t scratch scratch' list list' n p q u m =
    rw (← read_whole p, ← read_whole q, ← read_whole u) m.printed.printed

pub looks_whole : LooksWhole
unfolding looks_program
looks_whole cohort clip reference contig first second third fourth r s t u scratch scratch' line line' n p q v w m =
    rw (← read_whole p, ← read_whole q, ← read_whole v, ← read_whole w) m.printed.printed

pub call_whole : CallWhole
unfolding call_program
call_whole combined read s list list' n p m = rw (← read_whole p) m.printed
