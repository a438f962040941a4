-- The lines of the numbers from the next one on are left.
use lib.ListN.{drop}
use Rattle.kv_write.proofs.Laying.{Left}
use Rattle.list_programs.specs.FoundLines.{answer_lines}
use Rattle.list_programs.proofs.put_records.Given as goal

abbrev pub invariant-loop-n : goal.invariant-loop-n
invariant-loop-n l = Left l.initial.out 0 (answer_lines l.numbers) l.out l.at (answer_lines (drop l.n-index l.numbers))
