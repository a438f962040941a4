-- A refusal, laid over the start of the buffer.
use native.Mathlib.Omega.{arith}
use Rattle.files.proofs.Printing.{laid_printed, refusal_short}
use Rattle.list_programs.proofs.FoundLines.{refusal_printed}
use Rattle.list_programs.proofs.put_row.Goals as goal

pub returns : goal.returns
returns c =
    rw (← c.row.ensures, refusal_printed c.row.result) (laid_printed (omega (arith, refusal_short c.row.result (omega arith))) c.put_refusal.ensures)
