-- Storing the columns from here on comes to storing all.
use mathlib.Core.Path.{refl}
use native.Mathlib.Numerals.{add-one}
use lib.ListN.{length-set}
use Prim.Native.Nat.{◌+◌, ◌-◌}
use borrow.Author.Rules.{rules}
use native.Mathlib.Omega.{arith}
use Rattle.tables.proofs.Stored.{Storing, storing_end, storing_start, storing_turn}
use Rattle.tables.specs.Tables.{list_columns, word_of}
use Rattle.tables.proofs.store_list.Goals as goal

-- src/lib.rt:283:5
pub loop-j-init : goal.loop-j-init
loop-j-init c = storing_start _ _ _ _

-- src/lib.rt:284:13
pub word_of-word-requires : goal.word_of-word-requires
word_of-word-requires c = omega arith

-- src/lib.rt:285:14
pub overflow_add-rows : goal.overflow_add-rows
overflow_add-rows c = omega arith

-- src/lib.rt:285:14
pub overflow_add-rows-in-loop-j : goal.overflow_add-rows-in-loop-j
overflow_add-rows-in-loop-j c = omega arith

-- src/lib.rt:285:9
pub offset_bounds-rows-at-in-loop-j : goal.offset_bounds-rows-at-in-loop-j
offset_bounds-rows-at-in-loop-j c = omega (arith, simp length-set at c.loop-j.invariant.long)

-- src/lib.rt:285:9
pub bounds-rows-at-in-loop-j : goal.bounds-rows-at-in-loop-j
bounds-rows-at-in-loop-j c = omega (arith, simp length-set at c.loop-j.invariant.long)

-- src/lib.rt:283:9
pub overflow_step-j : goal.overflow_step-j
overflow_step-j c = omega arith

-- src/lib.rt:283:5
pub loop-j-smaller : goal.loop-j-smaller
loop-j-smaller c = omega arith

-- src/lib.rt:283:5
pub loop-j-preserved : goal.loop-j-preserved
loop-j-preserved c = storing_turn _ _ _ _ _ _ _ c.loop-j.invariant c.loop-j-test.true refl c.word_of-word.ensures refl

-- src/lib.rt:278:1
pub shape_of-rows : goal.shape_of-rows
shape_of-rows c = simp length-set at c.loop-j.invariant.long

-- src/lib.rt:278:1
pub returns : goal.returns
unfolding list_columns
returns c = rw (add-one (c.args.at)) at (storing_end _ _ _ _ _ _ c.loop-j.invariant c.loop-j-test.false)
