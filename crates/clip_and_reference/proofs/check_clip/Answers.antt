-- The loop's invariant: the text is in order if it is from here on.
use native.Mathlib.Omega.{arith}
use Rattle.clip_and_reference.proofs.Groups.{left_end, left_faulty, left_next, left_start}
use Rattle.clip_and_reference.specs.Groups.{SpanRead}
use Rattle.definitions.specs.ClipAndReference.{span_of}
use Rattle.clip_and_reference.proofs.check_clip.Goals as goal

pub loop-at-init : goal.loop-at-init
loop-at-init c = left_start span_of _

pub returns-in_default : goal.returns-in_default
unfolding SpanRead
returns-in_default c = left_faulty span_of _ _ c.loop-at.invariant c.in_default.ensures c.loop-at-test.true

pub loop-at-smaller : goal.loop-at-smaller
unfolding SpanRead
loop-at-smaller c = let g = c.in-Some.ensures.0 in omega (arith, g.forward, g.within)

pub loop-at-preserved : goal.loop-at-preserved
unfolding SpanRead
loop-at-preserved c = left_next span_of _ _ c.loop-at.invariant _ _ c.in-Some.ensures.0

pub returns : goal.returns
returns c = left_end span_of _ _ c.loop-at.invariant c.loop-at-test.false
