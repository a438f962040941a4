-- The header, then the records behind it.
use borrow.Author.Rules.{rules}
use native.Mathlib.Omega.{arith}
use Rattle.combined_list.proofs.WrittenList.{count_low, list_written, writing}
use Rattle.combined_list.proofs.write_list.Goals as goal

pub overflow_cast-count : goal.overflow_cast-count
overflow_cast-count c = omega (arith, count_low c.requires.0)

pub walk_contigs-requires : goal.walk_contigs-requires
walk_contigs-requires c = (writing c.requires.0 _ c.requires.1 c.put_header-at.ensures, c.requires.2)

pub returns : goal.returns
returns c = λ m. list_written m _ c.requires.1 c.put_header-at.ensures _ c.walk_contigs.ensures
