-- Index by index.
use Prim.Native.Nat.{◌-◌}
use borrow.Author.Rules.{rules}
use mathlib.Core.List.{◌++◌, map}
use native.Mathlib.Omega.{arith}
use Rattle.definitions.specs.Alleles.{capital, letters, same_allele}
use Rattle.laws.proofs.AllelesAsRead.{allele_as_read}
use Rattle.sample_alleles.proofs.Places.{Unput, all_put, all_unput, next_unput}
use Rattle.tables.specs.Tables.{name_at}
use Rattle.sample_alleles.proofs.put_extended.Given as goal

abbrev pub invariant-loop-i : goal.invariant-loop-i
invariant-loop-i l = Unput (λ k. same_allele (allele_as_read (name_at l.alts l.fields k)) (letters (map capital (l.bases ++ l.tail)))) l.index.0 l.count l.initial.map l.map l.i

abbrev pub decreases-loop-i : goal.decreases-loop-i
decreases-loop-i l = l.count - l.i
