-- The list stands there already, as far as the buffer goes; a refusal is laid over its start.
use native.Mathlib.Omega.{arith}
use Rattle.definitions.specs.Answers.{printed_answer}
use Rattle.files.proofs.Printing.{front_printed, laid_printed, refusal_short}
use Rattle.std.proofs.lemmas.List.{length-take}
use Rattle.files.proofs.put_answer.Goals as goal

pub returns-in-Ok : goal.returns-in-Ok
unfolding printed_answer
returns-in-Ok g c = let count = c.in-Ok.count in let list = c.args.list.now in
    rw c.in-Ok.is (front_printed list count (rw length-take (omega arith)))

pub returns-in-Err : goal.returns-in-Err
returns-in-Err g c = let row = c.into-row.result in
    rw c.in-Err.is (row, c.into-row.ensures, laid_printed (omega (arith, refusal_short row (omega (arith, c.into-row.type_inv)))) c.put_refusal.ensures)
