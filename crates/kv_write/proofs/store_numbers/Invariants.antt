-- The first number, then in each turn a comma and a number: the numbers from i on are left, each behind a comma, and
-- there is room for eleven bytes for each of them.
use Prim.Native.Nat.{◌*◌, ◌+◌, ◌-◌, ◌<◌, ◌^◌, ◌≤◌, ℕ}
use borrow.Author.Rules.{rules}
use lib.ListN.{drop, get_or, length, length-set, set}
use mathlib.Core.List.{List, [], ◌∷◌}
use mathlib.Core.Path.{◌∙◌, refl}
use native.Mathlib.Omega.{arith}
use Rattle.definitions.specs.Numbers.{decimal}
use Rattle.kv_write.proofs.Laying.{Left, done, fits_rest, laid_append, laid_length, left_length, recast, several, start}
use Rattle.kv_write.proofs.NumberList.{behind, comma_laid, first_then, none_behind}
use Rattle.kv_write.proofs.StoredDigits.{length_most}
use Rattle.kv_write.specs.Laid.{Laid}
use Rattle.kv_write.proofs.store_numbers.Given as goal

abbrev pub invariant-loop-n : goal.invariant-loop-n
invariant-loop-n l = Left l.initial.out l.initial.next (behind l.n-items) l.out l.next (behind (drop l.n-index l.n-items)) × (l.next + 11 * (length l.n-items - l.n-index) ≤ length l.out)
