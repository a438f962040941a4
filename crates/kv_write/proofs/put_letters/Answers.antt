-- By how much of the bytes the buffer has room for.
use borrow.Author.Rules.{rules}
use lib.ListN.{length-drop, length-map, length-take}
use native.Mathlib.Omega.{arith}
use Rattle.definitions.specs.Alleles.{capital}
use Rattle.kv_write.proofs.Laying.{laid_past, laid_start_map, laid_whole}
use Rattle.kv_write.proofs.put_letters.Goals as goal

pub overflow_add-end : goal.overflow_add-end
overflow_add-end c = let h = simp length-map at c.requires in omega (arith, h)

pub returns-then-out-at : goal.returns-then-out-at
returns-then-out-at c = laid_past (simp length-map) c.if-out-at.true

pub returns-then-end-out : goal.returns-then-end-out
returns-then-end-out c = laid_whole (simp length-map) c.if-end-out.true c.copy_letters.ensures

pub slice_bounds-copy_letters-end-3 : goal.slice_bounds-copy_letters-end-3
slice_bounds-copy_letters-end-3 c = simp length-take (omega arith)

pub copy_letters-requires-2 : goal.copy_letters-requires-2
copy_letters-requires-2 c = simp (length-take, length-drop) (omega arith)

pub returns : goal.returns
returns c = laid_start_map capital c.args.bytes.now (omega arith) (omega arith) c.copy_letters-2.ensures
