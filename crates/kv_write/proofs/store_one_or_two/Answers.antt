-- Two stores, as `one_or_two_laid` has them.
use borrow.Author.Rules.{rules}
use lib.ListN.{length-set}
use native.Mathlib.Omega.{arith}
use Rattle.kv_write.proofs.ShortNumbers.{one_or_two_laid}
use Rattle.kv_write.proofs.store_one_or_two.Goals as goal

pub bounds-out-last : goal.bounds-out-last
bounds-out-last c = simp length-set (omega arith)

pub returns : goal.returns
returns c = one_or_two_laid _ _ _ (omega arith) c.at_least.ensures.1
