-- Field by field, up to the first that is `<NON_REF>`.
use Prim.Native.Nat.{◌-◌, ℕ}
use borrow.Author.Rules.{rules}
use lib.ListN.{length, take}
use mathlib.Core.List.{List, [], ◌∷◌, map}
use mathlib.Core.Option.{get_or}
use mathlib.Core.Path.{◌∙◌, ◌≡◌, refl, sym}
use native.Mathlib.Omega.{arith}
use Rattle.called_lines.proofs.Alts.{non_ref_by_bytes}
use Rattle.definitions.specs.Alleles.{alleles_of, letters, non_ref, same_allele}
use Rattle.definitions.specs.Bytes.{comma, fields_of, text}
use Rattle.definitions.specs.Lists.{index_where}
use Rattle.kv_text.proofs.Fields.{field_within}
use Rattle.sample_alleles.proofs.First.{Unread, all_read, alts_unread, next_unread, no_number, reading_found}
use Rattle.laws.proofs.AllelesAsRead.{allele_as_read, ref_alts_as_read}
use Rattle.called_lines.proofs.non_ref_number.Given as goal

-- the number that the function gives
abbrev pub whole : List ℕ → ℕ
whole alts = get_or (index_where (same_allele non_ref) (take 256 (letters [] ∷ map allele_as_read (fields_of comma alts)))) 0

abbrev pub invariant-loop-at : goal.invariant-loop-at
invariant-loop-at l = Unread (same_allele non_ref) allele_as_read 0 l.alts (whole l.alts) l.at l.number

abbrev pub decreases-loop-at : goal.decreases-loop-at
decreases-loop-at l = length l.alts - l.at
