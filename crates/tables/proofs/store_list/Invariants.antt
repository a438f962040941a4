-- Storing the columns from here on comes to storing all.
use mathlib.Core.Path.{refl}
use native.Mathlib.Numerals.{add-one}
use lib.ListN.{length-set}
use Prim.Native.Nat.{◌+◌, ◌-◌}
use borrow.Author.Rules.{rules}
use native.Mathlib.Omega.{arith}
use Rattle.tables.proofs.Stored.{Storing, storing_end, storing_start, storing_turn}
use Rattle.tables.specs.Tables.{list_columns, word_of}
use Rattle.tables.proofs.store_list.Given as goal

abbrev pub invariant-loop-j : goal.invariant-loop-j
invariant-loop-j l = Storing l.initial.rows (l.at + 1) (word_of l.numbers) l.words l.rows l.j

abbrev pub decreases-loop-j : goal.decreases-loop-j
decreases-loop-j l = l.words - l.j
