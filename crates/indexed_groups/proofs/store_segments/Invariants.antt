-- The loop's invariant: the segments are those of the rows so far, and behind them those from here on.
use Rattle.indexed_groups.specs.Indexed.{SegmentsStored}
use Rattle.indexed_groups.proofs.store_segments.Given as goal

abbrev pub invariant-loop-count : goal.invariant-loop-count
invariant-loop-count l = SegmentsStored l.reference l.initial.rows l.rows l.count l.at
