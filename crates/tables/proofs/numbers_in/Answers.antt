-- A missing or faulty list counts none.
use Prim.Native.Nat.{ℕ}
use lib.ListN.{length}
use mathlib.Core.List.{List, []}
use mathlib.Core.Option.{get_or}
use mathlib.Core.Path.{◌∙◌, ◌≡◌}
use Rattle.std.specs.Option.{unwrap_or}
use Rattle.std.specs.Prelude.{None, Option, Some}
use Rattle.definitions.specs.Numbers.{number_list}
use Rattle.kv_text.specs.Fields.{numbers_read}
use Rattle.tables.proofs.numbers_in.Goals as goal

count_is : (read : Option ℕ) (s : List ℕ) (n : ℕ) → numbers_read read s → n ≡ unwrap_or read 0 → n ≡ length (get_or (number_list s) [])
unfolding numbers_read
count_is (Some m) s n h e = rw h.0 (e ∙ h.1)
count_is None s n h e = rw h e

pub returns : goal.returns
returns c = record { count = count_is c.read_numbers.result c.args.list.now _ c.read_numbers.ensures.0 c.unwrap_or.ensures; values = c.read_numbers.ensures.1 }
