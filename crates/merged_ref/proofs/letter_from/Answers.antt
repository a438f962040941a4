-- The loop's invariant: the segments from here on give the letter as all do.
use mathlib.Core.Path.{◌∙◌, sym}
use native.Mathlib.Omega.{arith}
use Rattle.clip_and_reference.specs.Groups.{SegmentRead}
use Rattle.merged_ref.proofs.LetterPlaces.{letter_end, letter_faulty, letter_found, letter_passed, letter_start}
use Rattle.merged_ref.proofs.Letters.{there_is, there_is_none}
use Rattle.merged_ref.proofs.letter_from.Goals as goal

pub loop-at-init : goal.loop-at-init
loop-at-init c = letter_start _ _ _ _

pub returns-in_err-group : goal.returns-in_err-group
unfolding SegmentRead
returns-in_err-group c = rw c.from_residual.ensures (letter_faulty _ _ _ _ c.loop-at.invariant c.in_err-group.ensures)

pub returns-then-is_some : goal.returns-then-is_some
unfolding SegmentRead
returns-then-is_some c =
    let g = c.in_ok-group.ensures in
    let (i, there) = there_is _ (sym c.is_some.ensures ∙ c.if-is_some.true) in
    rw there (letter_found _ _ _ _ c.loop-at.invariant g.0 g.2 (rw there at c.letter_in-letter.ensures))

pub loop-at-smaller : goal.loop-at-smaller
unfolding SegmentRead
loop-at-smaller c = let g = c.in_ok-group.ensures in omega (arith, g.0.forward, g.0.within)

pub loop-at-preserved : goal.loop-at-preserved
unfolding SegmentRead
loop-at-preserved c =
    let g = c.in_ok-group.ensures in
    let lacking = there_is_none _ (sym c.is_some.ensures ∙ c.if-is_some.false) in
    letter_passed _ _ _ _ c.loop-at.invariant g.0 g.2 (rw lacking at c.letter_in-letter.ensures)

pub returns : goal.returns
returns c = letter_end _ _ _ _ c.loop-at.invariant c.loop-at-test.false
