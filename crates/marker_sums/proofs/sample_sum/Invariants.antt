-- The loop's invariant: the sum of all is the sum so far and that of the markers left.
use Prim.Native.Nat.{◌-◌, ℕ}
use borrow.Author.Rules.{rules}
use lib.ListN.{length-replicate}
use mathlib.Core.Path.{sym}
use native.Mathlib.Omega.{arith}
use Rattle.marker_sums.proofs.Steps.{Summing, light_weight, summing_end, summing_next, summing_start}
use Rattle.marker_sums.specs.Sums.{none_met}
use Rattle.marker_sums.proofs.sample_sum.Given as goal

abbrev pub invariant-loop-marker : goal.invariant-loop-marker
invariant-loop-marker l = Summing l.rows l.shown none_met l.count l.met l.sum l.marker

abbrev pub decreases-loop-marker : goal.decreases-loop-marker
decreases-loop-marker l = l.count - l.marker
