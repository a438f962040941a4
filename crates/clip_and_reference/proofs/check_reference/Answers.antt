-- The loop's invariant: the text is in order if it is from here on.
use native.Mathlib.Omega.{arith}
use Rattle.clip_and_reference.proofs.Groups.{left_end, left_faulty, left_next, left_start}
use Rattle.clip_and_reference.specs.Groups.{SegmentRead}
use Rattle.definitions.specs.ClipAndReference.{segment_of}
use Rattle.clip_and_reference.proofs.check_reference.Goals as goal

pub loop-at-init : goal.loop-at-init
loop-at-init c = left_start segment_of _

pub returns-in_default : goal.returns-in_default
unfolding SegmentRead
returns-in_default c = left_faulty segment_of _ _ c.loop-at.invariant c.in_default.ensures c.loop-at-test.true

pub loop-at-smaller : goal.loop-at-smaller
unfolding SegmentRead
loop-at-smaller c = let g = c.in-Some.ensures.0 in omega (arith, g.forward, g.within)

pub loop-at-preserved : goal.loop-at-preserved
unfolding SegmentRead
loop-at-preserved c = left_next segment_of _ _ c.loop-at.invariant _ _ c.in-Some.ensures.0

pub returns : goal.returns
returns c = left_end segment_of _ _ c.loop-at.invariant c.loop-at-test.false
