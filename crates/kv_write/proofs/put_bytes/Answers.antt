-- By how much of the bytes the buffer has room for.
use borrow.Author.Rules.{rules}
use lib.ListN.{length-drop, length-take}
use mathlib.Core.Path.{refl}
use native.Mathlib.Omega.{arith}
use Rattle.kv_write.proofs.Laying.{laid_past, laid_start, laid_whole}
use Rattle.kv_write.proofs.put_bytes.Goals as goal

pub returns-then-out-at : goal.returns-then-out-at
returns-then-out-at c = laid_past refl c.if-out-at.true

pub returns-then-end-out : goal.returns-then-end-out
returns-then-end-out c = laid_whole refl c.if-end-out.true c.copy_over.ensures

pub returns : goal.returns
returns c = laid_start (omega arith) (omega arith) c.copy_over-2.ensures
