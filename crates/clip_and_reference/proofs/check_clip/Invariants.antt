-- The loop's invariant: the text is in order if it is from here on.
use Prim.Native.Nat.{◌-◌}
use lib.ListN.{length}
use Rattle.clip_and_reference.proofs.Groups.{Left}
use Rattle.definitions.specs.ClipAndReference.{span_of}
use Rattle.clip_and_reference.proofs.check_clip.Given as goal

abbrev pub invariant-loop-at : goal.invariant-loop-at
invariant-loop-at l = Left span_of l.s l.at

abbrev pub decreases-loop-at : goal.decreases-loop-at
decreases-loop-at l = length l.s - l.at
