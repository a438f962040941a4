-- The loop's invariant: the lines of the samples from this one on are left.
use Prim.Native.Nat.{◌-◌}
use borrow.Author.Rules.{rules}
use Rattle.called_lines.proofs.Rows.{sample_entries, samples_all, samples_next, samples_none, samples_from}
use Rattle.called_lines.specs.Rows.{called_sample, called_samples}
use Rattle.kv_write.proofs.Laying.{Left, done, left_length, recast, room, several, start}
use Rattle.called_lines.proofs.put_called_samples.Goals as goal

pub loop-sample-init : goal.loop-sample-init
loop-sample-init c = recast (samples_all _ _ _ _ _) (start c.requires.fits)

pub put_called_sample-next-requires : goal.put_called_sample-next-requires
put_called_sample-next-requires c = record {
  at_least = c.requires.at_least;
  at_most = c.requires.at_most;
  dropped = c.requires.dropped;
  entries = rw c.new-index.ensures (sample_entries _ _ _ _ _ _ c.requires c.loop-sample-test.true);
  fits = rw c.new-index.ensures (room (called_sample _ _ _ _ _) _
      (recast (samples_next _ _ _ _ _ _ c.loop-sample-test.true) c.loop-sample.invariant));
}

pub loop-sample-preserved : goal.loop-sample-preserved
loop-sample-preserved c = several (rw c.new-index.ensures at c.put_called_sample-next.ensures)
    (recast (samples_next _ _ _ _ _ _ c.loop-sample-test.true) c.loop-sample.invariant)

pub shape_of-out : goal.shape_of-out
shape_of-out c = left_length c.loop-sample.invariant

pub returns : goal.returns
returns c = done (recast (samples_none _ _ _ _ _ _ c.loop-sample-test.false) c.loop-sample.invariant)
