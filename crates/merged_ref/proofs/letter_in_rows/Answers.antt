-- The loop's invariant: the rows from here on give the letter as all do.
use mathlib.Core.Path.{◌∙◌, sym}
use Rattle.merged_ref.proofs.LetterPlaces.{rows_absent, rows_found, rows_passed, rows_start}
use Rattle.merged_ref.proofs.Letters.{there_is, there_is_none}
use Rattle.merged_ref.proofs.letter_in_rows.Goals as goal

pub loop-segment-init : goal.loop-segment-init
loop-segment-init c = rows_start _ _ _ _

pub returns-then-is_some : goal.returns-then-is_some
returns-then-is_some c =
    let (i, there) = there_is _ (sym c.is_some.ensures ∙ c.if-is_some.true) in
    rw there (rows_found _ _ _ _ c.loop-segment.invariant (rw c.segment_count-count.ensures at c.loop-segment-test.true)
    (rw there at c.letter_in_row-letter.ensures))

pub loop-segment-preserved : goal.loop-segment-preserved
loop-segment-preserved c =
    let lacking = there_is_none _ (sym c.is_some.ensures ∙ c.if-is_some.false) in
    rows_passed _ _ _ _ c.loop-segment.invariant (rw c.segment_count-count.ensures at c.loop-segment-test.true)
    (rw lacking at c.letter_in_row-letter.ensures)

pub returns : goal.returns
returns c = rows_absent _ _ _ _ (c.loop-segment.invariant) (rw (c.segment_count-count.ensures) at (c.loop-segment-test.false))
