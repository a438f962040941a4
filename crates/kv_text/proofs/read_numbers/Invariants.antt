-- The loop's invariant: storing the first numbers from here on gives what storing all of them was to give.
use Prim.Native.Nat.{◌+◌, ◌-◌, ◌≤◌, ℕ}
use lib.ListN.{drop, length}
use lib.Seq.{sets}
use mathlib.Core.List.{List}
use mathlib.Core.Option.{none, some}
use mathlib.Core.Path.{◌≡◌}
use Rattle.definitions.specs.Bytes.{fields_of}
use Rattle.kv_text.proofs.Numbers.{all_numbers}
use Rattle.kv_text.specs.Fields.{first_numbers}
use Rattle.kv_text.proofs.read_numbers.Given as goal

-- the fields from an offset on, and all of them
abbrev pub from : List ℕ → ℕ → List (List ℕ)
from s at = fields_of 44 (drop at s)

pub record Turn (s out₀ out : List ℕ) (at count : ℕ) : Type 0 where
  pub within : at ≤ length s
  pub few : count ≤ at
  pub long : length out ≡ length out₀
  pub same : sets out count (first_numbers (from s at)) ≡ sets out₀ 0 (first_numbers (from s 0))
  pub place : count + length (first_numbers (from s at)) ≡ length (first_numbers (from s 0))
  pub reads : all_numbers (from s at) ≡ some (first_numbers (from s at)) → all_numbers (from s 0) ≡ some (first_numbers (from s 0))
  pub faulty : all_numbers (from s at) ≡ none → all_numbers (from s 0) ≡ none

abbrev pub invariant-loop-n : goal.invariant-loop-n
invariant-loop-n l = Turn l.s l.initial.out l.out l.at l.count

abbrev pub decreases-loop-n : goal.decreases-loop-n
decreases-loop-n l = length l.s - l.at
