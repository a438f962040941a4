-- The loop's invariant: the lines of the samples from this one on are left.
use Prim.Native.Nat.{◌-◌}
use borrow.Author.Rules.{rules}
use Rattle.called_lines.proofs.Rows.{sample_entries, samples_all, samples_next, samples_none, samples_from}
use Rattle.called_lines.specs.Rows.{called_sample, called_samples}
use Rattle.kv_write.proofs.Laying.{Left, done, left_length, recast, room, several, start}
use Rattle.called_lines.proofs.put_called_samples.Given as goal

abbrev pub invariant-loop-sample : goal.invariant-loop-sample
invariant-loop-sample l = Left l.initial.out l.at (called_samples l.s l.alleles l.dropped.0 l.rows l.samples) l.out l.next (samples_from l.s l.alleles l.dropped.0 l.rows l.samples l.sample)

abbrev pub decreases-loop-sample : goal.decreases-loop-sample
decreases-loop-sample l = l.samples - l.sample
