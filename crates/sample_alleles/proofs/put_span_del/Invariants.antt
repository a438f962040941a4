-- Index by index.
use Prim.Native.Nat.{◌-◌}
use borrow.Author.Rules.{rules}
use native.Mathlib.Omega.{arith}
use Rattle.definitions.specs.Bytes.{same_bytes, text}
use Rattle.sample_alleles.proofs.Places.{Unput, all_put, all_unput, next_unput}
use Rattle.tables.specs.Tables.{name_at}
use Rattle.sample_alleles.proofs.put_span_del.Given as goal

abbrev pub invariant-loop-i : goal.invariant-loop-i
invariant-loop-i l = Unput (λ k. same_bytes (name_at l.alts l.fields k) (text "*")) l.index.0 l.count l.initial.map l.map l.i

abbrev pub decreases-loop-i : goal.decreases-loop-i
decreases-loop-i l = l.count - l.i
