-- Field by field, up to the first that is `<NON_REF>`.
use Prim.Native.Nat.{◌-◌, ℕ}
use borrow.Author.Rules.{rules}
use lib.ListN.{length, take}
use mathlib.Core.List.{List, [], ◌∷◌, map}
use mathlib.Core.Option.{get_or}
use mathlib.Core.Path.{◌∙◌, ◌≡◌, refl, sym}
use native.Mathlib.Omega.{arith}
use Rattle.called_lines.proofs.Alts.{non_ref_by_bytes}
use Rattle.definitions.specs.Alleles.{alleles_of, letters, non_ref, same_allele}
use Rattle.definitions.specs.Bytes.{comma, fields_of, text}
use Rattle.definitions.specs.Lists.{index_where}
use Rattle.kv_text.proofs.Fields.{field_within}
use Rattle.sample_alleles.proofs.First.{Unread, all_read, alts_unread, next_unread, no_number, reading_found}
use Rattle.laws.proofs.AllelesAsRead.{allele_as_read, ref_alts_as_read}
use Rattle.called_lines.proofs.non_ref_number.Invariants.{whole}
use Rattle.called_lines.proofs.non_ref_number.Goals as goal

-- whatever REF is
any-ref : (alts ref : List ℕ) → whole alts ≡ get_or (index_where (same_allele non_ref) (take 256 (alleles_of (ref_alts_as_read ref (fields_of comma alts))))) 0
unfolding alleles_of ref_alts_as_read same_allele index_where
any-ref alts ref = refl

pub loop-at-init : goal.loop-at-init
unfolding same_allele
loop-at-init c = alts_unread _ _ _ _ _ (letters []) refl refl

pub slice_bounds-same_bytes-end : goal.slice_bounds-same_bytes-end
slice_bounds-same_bytes-end c = let h = field_within _ _ _ _ (c.field_end-end.ensures) (c.loop-at.invariant.within) in search rules

pub returns-then-same_bytes : goal.returns-then-same_bytes
unfolding text
returns-then-same_bytes c = λ ref. (c.new.ensures) ∙ reading_found _ _ _ _ _ _ _ _ (c.loop-at.invariant) (c.field_end-end.ensures)
    (non_ref_by_bytes _ ∙ sym (c.same_bytes.ensures) ∙ (c.if-same_bytes.true)) ∙ any-ref _ ref

pub returns-then-alts-end : goal.returns-then-alts-end
unfolding text
returns-then-alts-end c = λ ref. (c.reference.ensures) ∙ all_read _ _ _ _ _ _ _ _ (c.loop-at.invariant) (c.field_end-end.ensures)
    (non_ref_by_bytes _ ∙ sym (c.same_bytes.ensures) ∙ (c.if-same_bytes.false)) (c.if-alts-end.true) ∙ any-ref _ ref

pub returns-then-number : goal.returns-then-number
unfolding text
returns-then-number c = λ ref. (c.reference-then-number.ensures) ∙ no_number _ _ _ _ _ _ _ _ (c.loop-at.invariant) (c.field_end-end.ensures)
    (non_ref_by_bytes _ ∙ sym (c.same_bytes.ensures) ∙ (c.if-same_bytes.false)) (c.if-alts-end.false) (c.if-number.true) ∙ any-ref _ ref

pub overflow_add-number : goal.overflow_add-number
overflow_add-number c = omega (arith, c.loop-at.invariant.most, c.if-number.false)

pub loop-at-smaller : goal.loop-at-smaller
loop-at-smaller c = omega (arith, c.field_end-end.ensures)

pub loop-at-preserved : goal.loop-at-preserved
unfolding text
loop-at-preserved c = next_unread _ _ _ _ _ _ _ _ (c.loop-at.invariant) (c.field_end-end.ensures)
    (non_ref_by_bytes _ ∙ sym (c.same_bytes.ensures) ∙ (c.if-same_bytes.false)) (c.if-alts-end.false) (c.if-number.false)
