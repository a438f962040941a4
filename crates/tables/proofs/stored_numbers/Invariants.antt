-- Storing the numbers from here on comes to storing all.
use Prim.Native.Nat.{◌-◌}
use borrow.Author.Rules.{rules}
use native.Mathlib.Omega.{arith}
use Rattle.tables.proofs.Stored.{Storing, storing_end, storing_start, storing_turn}
use Rattle.tables.specs.Tables.{stored_number, stored_numbers}
use Rattle.tables.proofs.stored_numbers.Given as goal

abbrev pub invariant-loop-i : goal.invariant-loop-i
invariant-loop-i l = Storing l.initial.out 0 (stored_number l.k l.rows l.site) l.count l.out l.i

abbrev pub decreases-loop-i : goal.decreases-loop-i
decreases-loop-i l = l.count - l.i
