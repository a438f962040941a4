-- Field by field.
use Prim.Native.Nat.{◌-◌}
use borrow.Author.Rules.{rules}
use lib.ListN.{length, length-set}
use native.Mathlib.Omega.{arith}
use mathlib.Core.Path.{refl}
use Rattle.sample_alleles.proofs.Fields.{Unsplit, all_split, all_unsplit, next_unsplit, room_here}
use Rattle.sample_alleles.proofs.split_alts.Given as goal

abbrev pub invariant-loop-at : goal.invariant-loop-at
invariant-loop-at l = Unsplit l.alts l.initial.fields l.fields l.at l.count

abbrev pub decreases-loop-at : goal.decreases-loop-at
decreases-loop-at l = length l.alts - l.at
