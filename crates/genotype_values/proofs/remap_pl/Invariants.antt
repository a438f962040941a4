-- What is left of the rows from `high` on.
use Prim.Native.Nat.{◌-◌}
use borrow.Author.Rules.{rules}
use native.Mathlib.Omega.{arith}
use Rattle.genotype_values.proofs.Filled.{pl_refused, pl_remapped}
use Rattle.genotype_values.proofs.Rows.{RowsLeft, few_places, rows_count, rows_end, rows_next, rows_same_length, rows_start}
use Rattle.genotype_values.proofs.remap_pl.Given as goal

abbrev pub invariant-loop-number : goal.invariant-loop-number
invariant-loop-number l = RowsLeft l.map l.pl l.initial.out l.out l.at l.number

abbrev pub decreases-loop-number : goal.decreases-loop-number
decreases-loop-number l = l.alleles - l.number
