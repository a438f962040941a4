-- Storing the numbers from here on comes to storing all.
use Prim.Native.Nat.{◌-◌}
use borrow.Author.Rules.{rules}
use native.Mathlib.Omega.{arith}
use Rattle.tables.proofs.Stored.{Storing, storing_end, storing_start, storing_turn}
use Rattle.tables.specs.Tables.{stored_number, stored_numbers}
use Rattle.tables.proofs.stored_numbers.Goals as goal

-- src/lib.rt:213:5
pub loop-i-init : goal.loop-i-init
loop-i-init c = storing_start _ _ _ _

-- src/lib.rt:214:36
pub overflow_add-k : goal.overflow_add-k
overflow_add-k c = omega arith

-- src/lib.rt:214:36
pub overflow_add-k-in-loop-i : goal.overflow_add-k-in-loop-i
overflow_add-k-in-loop-i c = omega arith

-- src/lib.rt:213:9
pub overflow_step-i : goal.overflow_step-i
overflow_step-i c = omega arith

-- src/lib.rt:213:5
pub loop-i-smaller : goal.loop-i-smaller
loop-i-smaller c = omega arith

-- src/lib.rt:213:5
pub loop-i-preserved : goal.loop-i-preserved
unfolding stored_number
loop-i-preserved c = storing_turn _ _ _ _ _ _ _ c.loop-i.invariant c.loop-i-test.true (omega arith) (rw (c.column-n.ensures) at c.half_at.ensures) c.store.ensures

-- src/lib.rt:208:1
pub shape_of-out : goal.shape_of-out
shape_of-out c = c.loop-i.invariant.long

-- src/lib.rt:208:1
pub returns : goal.returns
unfolding stored_numbers
returns c = rw (← c.column-count.ensures) (storing_end _ _ _ _ _ _ c.loop-i.invariant c.loop-i-test.false)
