-- What is left to store are the values from i on.
use Prim.Native.Nat.{◌+◌}
use borrow.Author.Rules.{rules}
use lib.ListN.{drop, drop_of_length-le}
use native.Mathlib.Omega.{arith}
use Rattle.called_genotypes.proofs.Folded.{next_value, value_laid}
use Rattle.kv_write.proofs.Laying.{Left, done, left_length, one, recast, start}
use Rattle.called_genotypes.proofs.store_values.Given as goal

abbrev pub invariant-loop-i : goal.invariant-loop-i
invariant-loop-i l = Left l.initial.out l.place l.values l.out (l.place + l.i) (drop l.i l.values)
