-- Nothing, only measured, stored where there is room, or laid wherever the buffer ends.
use borrow.Author.Rules.{rules}
use mathlib.Core.Path.{refl}
use Rattle.kv_write.proofs.Laying.{laid_none, laid_past}
use Rattle.kv_write.proofs.NumberList.{no_numbers}
use Rattle.kv_write.proofs.put_numbers.Goals as goal

pub returns-then-numbers-eq0 : goal.returns-then-numbers-eq0
returns-then-numbers-eq0 c = rw (no_numbers _ c.if-numbers-eq0.true) laid_none

pub returns-then-out-at : goal.returns-then-out-at
returns-then-out-at c = rw c.numbers_end.ensures (laid_past refl c.if-out-at.true)
