-- The loop's invariant: the field that is looked for is the one with so many before it of those from `at` on as turns are left.
use Prim.Native.Nat.{◌+◌, ◌-◌, ◌≤◌, ℕ}
use lib.ListN.{drop, get_or, length, take}
use mathlib.Core.List.{List, []}
use mathlib.Core.Path.{◌≡◌}
use Rattle.definitions.specs.Bytes.{fields_of}
use Rattle.kv_text.specs.Fields.{field_length, field_start, separated_length}
use Rattle.kv_text.proofs.field_at.Given as goal

pub record Turn (s : List ℕ) (separator n left at end : ℕ) : Type 0 where
  pub within : at ≤ length s
  pub ends : end ≡ at + field_length separator (drop at s)
  pub same : get_or (fields_of separator s) n [] ≡ get_or (fields_of separator (drop at s)) left []
  pub count : length (fields_of separator s) + left ≡ length (fields_of separator (drop at s)) + n
  pub start : field_start separator n s ≡ at + separated_length (take left (fields_of separator (drop at s)))

abbrev pub invariant-loop : goal.invariant-loop
invariant-loop l = Turn l.s l.separator l.number (l.number - l.counter) l.at l.end
