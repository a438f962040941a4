-- By whether one before has it.
use Rattle.list_reader.proofs.some_pl.Goals as goal

pub returns-else-before : goal.returns-else-before
returns-else-before c = rw c.if-before.false
