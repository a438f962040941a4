-- Field by field.
use Prim.Native.Nat.{◌-◌}
use borrow.Author.Rules.{rules}
use lib.ListN.{length}
use mathlib.Core.Path.{◌∙◌}
use native.Mathlib.Omega.{arith}
use Rattle.called_lines.proofs.Alts.{AltsLeft, alts_done, alts_next, alts_start, field_fits}
use Rattle.definitions.specs.Bytes.{text}
use Rattle.kv_text.proofs.Fields.{field_within}
use Rattle.kv_write.proofs.Laying.{left_length}
use Rattle.called_lines.proofs.alleles_without_non_ref.Given as goal

abbrev pub invariant-loop-at : goal.invariant-loop-at
invariant-loop-at l = AltsLeft l.alts l.initial.out l.at l.out l.next l.others l.from

abbrev pub decreases-loop-at : goal.decreases-loop-at
decreases-loop-at l = length l.alts - l.from
