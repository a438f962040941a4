-- What is left is the length of the numbers from i on, each behind a comma.
use Prim.Native.Nat.{◌+◌, ◌-◌}
use borrow.Author.Rules.{rules}
use lib.ListN.{drop, length}
use mathlib.Core.Path.{◌≡◌}
use native.Mathlib.Omega.{arith}
use Rattle.definitions.specs.Numbers.{decimals}
use Rattle.kv_write.proofs.NumberList.{behind, length_first, length_next, length_none}
use Rattle.kv_write.proofs.numbers_end.Given as goal

abbrev pub invariant-loop-n : goal.invariant-loop-n
invariant-loop-n l = l.next + length (behind (drop l.n-index l.n-items)) ≡ l.at + length (decimals l.numbers)
