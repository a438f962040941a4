-- Sample by sample, each behind those in the table.
use Prim.Native.Nat.{◌-◌}
use Rattle.called_reader.proofs.Samples.{Reading}
use Rattle.called_reader.proofs.record_text.Given as goal

abbrev pub invariant-loop-i : goal.invariant-loop-i
invariant-loop-i l = Reading l.s l.at l.samples l.initial.pls l.head l.pls l.next l.fit l.i

abbrev pub decreases-loop-i : goal.decreases-loop-i
decreases-loop-i l = l.samples - l.i
