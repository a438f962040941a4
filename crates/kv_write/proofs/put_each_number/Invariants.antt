-- The first number, then in each turn a comma and a number: the numbers from i on are left, each behind a comma.
use Prim.Native.Nat.{◌-◌}
use borrow.Author.Rules.{rules}
use lib.ListN.{drop}
use mathlib.Core.Path.{◌∙◌}
use native.Mathlib.Omega.{arith}
use Rattle.definitions.specs.Numbers.{decimal}
use Rattle.kv_write.proofs.Laying.{Left, done, fits_first, fits_rest, laid_append, left_length, recast, room, several, start}
use Rattle.kv_write.proofs.NumberList.{behind, comma_laid, first_then, length_next, none_behind}
use Rattle.kv_write.proofs.put_each_number.Given as goal

abbrev pub invariant-loop-n : goal.invariant-loop-n
invariant-loop-n l = Left l.initial.out l.initial.next (behind l.n-items) l.out l.next (behind (drop l.n-index l.n-items))
