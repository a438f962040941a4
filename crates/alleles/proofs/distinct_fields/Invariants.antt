-- Each field with those behind it, up to the first that is among them.
use Prim.Native.Nat.{◌+◌, ◌-◌, ℕ}
use lib.ListN.{drop, length}
use mathlib.Core.List.{List}
use mathlib.Core.Path.{◌≡◌}
use Rattle.alleles.proofs.FieldLoop.{FieldsLeft}
use Rattle.definitions.specs.Lists.{all_distinct}
use Rattle.laws.proofs.Capitals.{same_letters}
use Rattle.kv_text.specs.Fields.{field_length}
use Rattle.alleles.proofs.distinct_fields.Given as goal

-- the field from `at` on ends at `end`
pub record Inv (list : List ℕ) (at end : ℕ) : Type 0 where
  pub left : FieldsLeft (all_distinct same_letters) list at
  pub ends : end ≡ at + field_length 44 (drop at list)

abbrev pub invariant-loop-end : goal.invariant-loop-end
invariant-loop-end l = Inv l.list l.at l.end

abbrev pub decreases-loop-end : goal.decreases-loop-end
decreases-loop-end l = length l.list - l.at
