-- The fields from `at` on are left.
use Prim.Native.Nat.{◌-◌}
use borrow.Author.Rules.{rules}
use lib.ListN.{length}
use mathlib.Core.Path.{◌∙◌}
use native.Mathlib.Omega.{arith}
use Rattle.kv_text.proofs.Fields.{field_within}
use Rattle.kv_write.proofs.Laying.{left_length}
use Rattle.reverse_trim.proofs.Trimmed.{TrimmedLeft, comma_room, field_done, field_more, field_room, trimmed_start}
use Rattle.reverse_trim.specs.LetterAlleles.{alleles_spelled}
use Rattle.reverse_trim.proofs.put_trimmed.Given as goal

abbrev pub invariant-loop-clip : goal.invariant-loop-clip
invariant-loop-clip l = TrimmedLeft l.clip l.list l.initial.out l.out l.next l.at

abbrev pub decreases-loop-clip : goal.decreases-loop-clip
decreases-loop-clip l = length l.list - l.at
