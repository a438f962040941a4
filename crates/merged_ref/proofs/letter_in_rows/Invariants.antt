-- The loop's invariant: the rows from here on give the letter as all do.
use Rattle.merged_ref.proofs.LetterPlaces.{RowsLeft}
use Rattle.merged_ref.proofs.letter_in_rows.Given as goal

abbrev pub invariant-loop-segment : goal.invariant-loop-segment
invariant-loop-segment l = RowsLeft l.contig l.position.0 l.reference l.rows l.segment
