-- The header is measured; if there is room for all, the list is written.
use borrow.Author.Rules.{rules}
use native.Mathlib.Omega.{arith}
use Rattle.combined_list.proofs.OneContig.{taken_exactly}
use Rattle.combined_list.proofs.WrittenList.{count_low, end_low, fitting_answered, full_answered, part_low}
use Rattle.combined_list.proofs.write_measured.Goals as goal

pub overflow_cast-count : goal.overflow_cast-count
overflow_cast-count c = omega (arith, count_low c.requires.0)

pub overflow_add-end : goal.overflow_add-end
overflow_add-end c = omega (arith, end_low c.requires.0 c.put_header-header.ensures)

pub returns-then-out-end : goal.returns-then-out-end
returns-then-out-end c = λ m. full_answered m c.put_header-header.ensures _ c.if-out-end.true

pub slice_bounds-write_list-end-2 : goal.slice_bounds-write_list-end-2
slice_bounds-write_list-end-2 c = taken_exactly _ _ c.if-out-end.false

pub write_list-requires : goal.write_list-requires
write_list-requires c = (c.requires.0, part_low c.requires.0 c.put_header-header.ensures _, c.requires.1)

pub returns : goal.returns
returns c = λ m. fitting_answered m c.put_header-header.ensures _ c.if-out-end.false c.write_list.ensures
