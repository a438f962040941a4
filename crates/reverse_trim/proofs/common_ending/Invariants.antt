-- Letter by letter from the end, up to the first that differs.
use Prim.Native.Nat.{◌-◌}
use borrow.Author.Rules.{rules}
use mathlib.Core.List.{map}
use mathlib.Core.Path.{◌∙◌, sym}
use native.Mathlib.Omega.{arith}
use Rattle.definitions.specs.Alleles.{capital}
use Rattle.reverse_trim.proofs.Endings.{EndingLeft, ending_most, ending_start, raised_differs, raised_more, raised_one_left, raised_whole}
use Rattle.reverse_trim.proofs.common_ending.Given as goal

abbrev pub invariant-loop-n : goal.invariant-loop-n
invariant-loop-n l = EndingLeft (map capital l.reference) (map capital l.allele) l.most l.n

abbrev pub decreases-loop-n : goal.decreases-loop-n
decreases-loop-n l = l.most - l.n
