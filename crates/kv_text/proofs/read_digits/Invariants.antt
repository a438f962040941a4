-- The loop's invariant: the field's number is that of its bytes left, after the number so far, and the field ends where they do.
use Prim.Native.Nat.{◌+◌, ◌≤◌, ℕ}
use lib.ListN.{drop}
use mathlib.Core.List.{List}
use mathlib.Core.Path.{◌≡◌}
use Rattle.definitions.specs.Numbers.{number}
use Rattle.kv_text.proofs.Digits.{rest_from}
use Rattle.kv_text.specs.Fields.{field_length, first_field}
use Rattle.kv_text.proofs.read_digits.Given as goal

pub record Reading (s : List ℕ) (at i n : ℕ) : Type 0 where
  pub small : n ≤ 2147483647
  pub value : number (first_field 44 (drop at s)) ≡ rest_from n (first_field 44 (drop i s))
  pub ends : at + field_length 44 (drop at s) ≡ i + field_length 44 (drop i s)

abbrev pub invariant-loop-i : goal.invariant-loop-i
invariant-loop-i l = Reading l.s l.at l.i l.n
