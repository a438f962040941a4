-- The PLs before i are read, two more in a turn; a last one may be left.
use Prim.Native.Nat.{◌-◌}
use lib.ListN.{length}
use borrow.Author.Rules.{rules}
use mathlib.Core.Path.{◌∙◌}
use native.Mathlib.Omega.{arith}
use Rattle.genotyping.specs.OneReading.{Read, least_of}
use Rattle.genotyping.proofs.OneReading.{gq_of_all, read_later}
use Rattle.genotyping.proofs.gq_phred_from_pl.Given as goal

abbrev pub invariant-loop-i : goal.invariant-loop-i
invariant-loop-i l = Read l.pl (least_of l.t) l.i

abbrev pub decreases-loop-i : goal.decreases-loop-i
decreases-loop-i l = length l.pl - l.i
