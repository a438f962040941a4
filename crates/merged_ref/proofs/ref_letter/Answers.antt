-- By whether a reference is there, and by what is found in it, or in the cohort text.
use Rattle.merged_ref.proofs.LetterPlaces.{place_lacks, place_stands}
use Rattle.merged_ref.proofs.Refs.{letter_lacking, letter_reached, letter_there, letter_unknown}
use Rattle.merged_ref.proofs.ref_letter.Goals as goal

pub returns-in-Some : goal.returns-in-Some
returns-in-Some c =
    let a = c.args in
    letter_there _ _ _ _ _ a.found.now _ _ c.if-referenced.true _ (place_stands _ _ _ _ c.in-Some.ensures)

pub returns-in-None : goal.returns-in-None
returns-in-None c =
    let a = c.args in
    letter_lacking _ _ _ _ _ a.found.now _ _ c.if-referenced.true (place_lacks _ _ _ _ c.in-None.ensures)

pub returns-in-Some-reached_letter : goal.returns-in-Some-reached_letter
returns-in-Some-reached_letter c =
    let a = c.args in
    letter_reached _ _ _ _ _ a.found.now _ _ c.if-referenced.false _ c.in-Some-reached_letter.ensures

pub returns-in-None-reached_letter : goal.returns-in-None-reached_letter
returns-in-None-reached_letter c =
    let a = c.args in
    letter_unknown _ _ _ _ _ a.found.now _ _ c.if-referenced.false c.in-None-reached_letter.ensures
