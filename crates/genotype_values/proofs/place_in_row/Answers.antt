-- A lower or equal first allele stands so many places behind REF in the row.
use borrow.Author.Rules.{rules}
use native.Mathlib.Omega.{arith}
use Rattle.genotype_values.proofs.Rows.{place_behind, row_bound}
use Rattle.genotype_values.proofs.place_in_row.Goals as goal

pub overflow_add-result : goal.overflow_add-result
overflow_add-result c = omega (arith, row_bound c.args.second.0 (omega arith))

pub returns-then-behind-get : goal.returns-then-behind-get
returns-then-behind-get c = let args = c.args in
    rw (c.requires, c.get-behind.ensures) (place_behind args.first.0 args.second.0 (omega arith))
