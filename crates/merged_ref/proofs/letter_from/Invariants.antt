-- The loop's invariant: the segments from here on give the letter as all do.
use Prim.Native.Nat.{◌-◌}
use lib.ListN.{length}
use Rattle.merged_ref.proofs.LetterPlaces.{LetterLeft}
use Rattle.merged_ref.proofs.letter_from.Given as goal

abbrev pub invariant-loop-at : goal.invariant-loop-at
invariant-loop-at l = LetterLeft l.contig l.position.0 l.reference l.from l.at

abbrev pub decreases-loop-at : goal.decreases-loop-at
decreases-loop-at l = length l.reference - l.at
