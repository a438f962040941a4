-- If they have room.
use borrow.Author.Rules.{rules}
use Rattle.tables.specs.Tables.{with_numbers}
use Rattle.tables.proofs.NumberLists.{stored_few}
use native.Mathlib.Omega.{arith}
use mathlib.Core.Path.{◌∙◌, refl, sym}
use lib.ListN.{length-take}
use Rattle.tables.proofs.store_numbers.Goals as goal

pub slice_bounds-store_list-end : goal.slice_bounds-store_list-end
slice_bounds-store_list-end c = let h = stored_few _ _ (sym (c.is_stored.ensures) ∙ c.if-is_stored.true) in omega (arith, length-take c.args.count c.args.numbers.now)

pub returns-then-is_stored : goal.returns-then-is_stored
unfolding with_numbers
returns-then-is_stored c = rw (← (c.is_stored.ensures), c.if-is_stored.true) (c.store_list.ensures)

pub returns-else-is_stored : goal.returns-else-is_stored
unfolding with_numbers
returns-else-is_stored c = rw (← (c.is_stored.ensures), c.if-is_stored.false) refl
