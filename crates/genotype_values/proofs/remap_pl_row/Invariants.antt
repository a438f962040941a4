-- What is left of the row from `low` on; where no room is left, laying it changes nothing.
use Prim.Native.Nat.{◌-◌}
use borrow.Author.Rules.{rules}
use mathlib.Core.Path.{refl}
use native.Mathlib.Omega.{arith}
use Rattle.genotype_values.proofs.Rows.{RowLeft, row_end, row_next, row_same_length, row_start}
use Rattle.genotype_values.proofs.remap_pl_row.Given as goal

abbrev pub invariant-loop-low : goal.invariant-loop-low
invariant-loop-low l = RowLeft l.map l.pl l.last l.initial.out l.at l.out l.low
