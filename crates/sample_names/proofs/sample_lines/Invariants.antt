-- The loop's invariant: all lines give the names of the table and then those of the lines left.
use Rattle.sample_names.proofs.Lines.{Turn}
use Rattle.sample_names.proofs.sample_lines.Given as goal

abbrev pub invariant-loop-i : goal.invariant-loop-i
invariant-loop-i l = Turn l.s l.at l.count l.initial.names l.names l.next l.i
