-- Field by field.
use Prim.Native.Nat.{◌-◌, ℕ}
use lib.ListN.{length}
use mathlib.Core.List.{List, flat_map}
use Rattle.definitions.specs.Bytes.{comma, fields_of}
use Rattle.merged_alleles.proofs.Turns.{FieldsLeft}
use Rattle.merged_alleles.specs.Alts.{add_all, extended_letters, listed}
use Rattle.merged_alleles.proofs.extend_alleles.Given as goal

abbrev pub whole : List ℕ → List ℕ → List ℕ → ℕ → ℕ → List (List ℕ)
whole list end alts len n = add_all (listed alts len n) (flat_map (extended_letters end) (fields_of comma list))

abbrev pub invariant-loop-laid : goal.invariant-loop-laid
invariant-loop-laid l = FieldsLeft l.list l.end (whole l.list l.end l.initial.alts l.initial.laid.len l.initial.laid.count) l.initial.alts l.alts l.laid.len l.laid.count l.at

abbrev pub decreases-loop-laid : goal.decreases-loop-laid
decreases-loop-laid l = length l.list - l.at
