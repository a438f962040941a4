-- What is left is the length of the numbers from i on, each behind a comma.
use Prim.Native.Nat.{◌+◌, ◌-◌}
use borrow.Author.Rules.{rules}
use lib.ListN.{drop, length}
use mathlib.Core.Path.{◌≡◌}
use native.Mathlib.Omega.{arith}
use Rattle.definitions.specs.Numbers.{decimals}
use Rattle.kv_write.proofs.NumberList.{behind, length_first, length_next, length_none, others}
use Rattle.kv_write.proofs.numbers_end.Goals as goal

pub number_end-next-requires : goal.number_end-next-requires
number_end-next-requires c = omega (arith, length_first c.args.numbers.now c.requires.0)

pub loop-n-init : goal.loop-n-init
loop-n-init c = omega (arith, length_first c.args.numbers.now c.requires.0, c.number_end-next.ensures)

pub overflow_add-next : goal.overflow_add-next
overflow_add-next c = omega (arith, length_next (others c.args.numbers.now) c.loop-n.n-index c.loop-n-test.true, c.loop-n.invariant)

pub number_end-next-requires-in-loop-n : goal.number_end-next-requires-in-loop-n
number_end-next-requires-in-loop-n c = omega (arith, length_next (others c.args.numbers.now) c.loop-n.n-index c.loop-n-test.true, c.loop-n.invariant)

pub loop-n-preserved : goal.loop-n-preserved
loop-n-preserved c = omega (arith, length_next (others c.args.numbers.now) c.loop-n.n-index c.loop-n-test.true, c.number_end-next-in-loop-n.ensures, c.loop-n.invariant)

pub returns : goal.returns
returns c = omega (arith, length_none (others c.args.numbers.now) c.loop-n.n-index c.loop-n-test.false)
