-- The segments with rows come first.
use Rattle.merged_ref.proofs.LetterPlaces.{behind_rows, in_rows}
use Rattle.merged_ref.proofs.find_letter.Goals as goal

pub returns-in-Some : goal.returns-in-Some
returns-in-Some c = in_rows _ _ _ _ c.in-Some.ensures

pub returns-in-None : goal.returns-in-None
returns-in-None c = behind_rows _ _ _ _ c.in-None.ensures (rw c.segments_next.ensures at c.letter_from.ensures)
