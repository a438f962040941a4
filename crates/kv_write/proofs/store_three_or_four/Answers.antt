-- Four stores, as `three_or_four_laid` has them.
use borrow.Author.Rules.{rules}
use lib.ListN.{length-set}
use native.Mathlib.Omega.{arith}
use Rattle.kv_write.proofs.ShortNumbers.{three_or_four_laid}
use Rattle.kv_write.proofs.store_three_or_four.Goals as goal

pub bounds-out-second : goal.bounds-out-second
bounds-out-second c = simp length-set (omega arith)

pub bounds-out-second-2 : goal.bounds-out-second-2
bounds-out-second-2 c = simp length-set (omega arith)

pub bounds-out-second-3 : goal.bounds-out-second-3
bounds-out-second-3 c = simp length-set (omega arith)

pub returns : goal.returns
returns c = three_or_four_laid _ _ _ (omega arith) (omega arith) c.at_least.ensures.1
