-- What is left of the rows from `high` on.
use Prim.Native.Nat.{◌-◌}
use borrow.Author.Rules.{rules}
use native.Mathlib.Omega.{arith}
use Rattle.genotype_values.proofs.Filled.{pl_refused, pl_remapped}
use Rattle.genotype_values.proofs.Rows.{RowsLeft, few_places, rows_count, rows_end, rows_next, rows_same_length, rows_start}
use Rattle.genotype_values.proofs.remap_pl.Goals as goal

pub returns-then-alleles-gt16 : goal.returns-then-alleles-gt16
returns-then-alleles-gt16 c = pl_refused (c.if-alleles-gt16.true)

pub loop-number-init : goal.loop-number-init
loop-number-init c = rows_start

pub overflow_cast-number : goal.overflow_cast-number
overflow_cast-number c = omega (arith, c.if-alleles-gt16.false)

pub remap_pl_row-requires : goal.remap_pl_row-requires
remap_pl_row-requires c = rw (c.new-high.ensures) (c.loop-number-test.true)

pub overflow_add-at-in-loop-number : goal.overflow_add-at-in-loop-number
overflow_add-at-in-loop-number c = omega (arith, few_places c.if-alleles-gt16.false c.loop-number.invariant)

pub loop-number-preserved : goal.loop-number-preserved
loop-number-preserved c = rows_next c.loop-number-test.true (rw c.new-high.ensures at c.remap_pl_row.ensures) c.loop-number.invariant

pub shape_of-out : goal.shape_of-out
shape_of-out c = rows_same_length (c.loop-number.invariant)

pub returns : goal.returns
returns c = pl_remapped c.if-alleles-gt16.false (rows_end c.loop-number-test.false c.loop-number.invariant) (rows_count c.loop-number-test.false c.loop-number.invariant)
