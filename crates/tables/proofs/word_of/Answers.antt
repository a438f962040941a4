-- Each of the two is below 2^32.
use Prim.Native.Nat.{◌*◌, ◌+◌}
use native.Mathlib.Omega.{arith}
use Rattle.tables.specs.Tables.{word_of}
use borrow.Author.Rules.{rules}
use Rattle.tables.proofs.word_of.Goals as goal

pub overflow_mul-result : goal.overflow_mul-result
overflow_mul-result c = omega (arith, c.value_or-high.ensures, (c.type_inv.numbers (2 * c.args.j + 1)))

pub overflow_add-result : goal.overflow_add-result
overflow_add-result c = omega (arith, c.value_or-high.ensures, c.value_or-low.ensures, (c.type_inv.numbers (2 * c.args.j)), (c.type_inv.numbers (2 * c.args.j + 1)))

pub returns : goal.returns
unfolding word_of
returns c = rw (c.value_or-high.ensures, c.value_or-low.ensures)
