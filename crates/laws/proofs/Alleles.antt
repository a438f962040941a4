-- Alleles: when two are the same, and what a block is.
use borrow.Author.Tests.{eq-eqb, eqb-true}
use lib.Dec.{eqb}
use lib.ListN.{length}
use mathlib.Core.Bool.{◌&&◌, true}
use mathlib.Core.List.Memᴰ
use mathlib.Core.List.{List, [], ◌∷◌}
use mathlib.Core.Path.{◌∙◌, ◌≡◌, ap, refl, subst, sym}
use native.Mathlib.Omega.{arith}
use Rattle.definitions.specs.Alleles.{Allele, RefAlts, has_non_ref, is_block, letters, non_ref, only_non_ref, same_allele, span_del}
use Rattle.definitions.specs.Lists.{any_of}
use Rattle.laws.proofs.Bytes.{same_is, same_refl}
use Rattle.laws.proofs.Members.{any_member}
use Rattle.laws.proofs.Tests.{bool_ext, both, both_of}

-- ---- same_allele

pub allele_is : (a b : Allele) → same_allele a b ≡ true → a ≡ b
unfolding same_allele
allele_is (letters s) (letters t) h = ap letters (same_is s t h)
allele_is (letters s) span_del h = cc
allele_is (letters s) non_ref h = cc
allele_is span_del (letters t) h = cc
allele_is span_del span_del h = refl
allele_is span_del non_ref h = cc
allele_is non_ref (letters t) h = cc
allele_is non_ref span_del h = cc
allele_is non_ref non_ref h = refl

pub allele_refl : (a : Allele) → same_allele a a ≡ true
unfolding same_allele
allele_refl (letters s) = same_refl s
allele_refl span_del = refl
allele_refl non_ref = refl

pub allele_flip : (a b : Allele) → same_allele a b ≡ same_allele b a
allele_flip a b = bool_ext _ _
    (λ e. rw (allele_is a b e) (allele_refl b))
    (λ e. rw (allele_is b a e) (allele_refl a))

-- ---- is_block

pub block_is : (r : RefAlts) → is_block r ≡ true → (r.alts ≡ non_ref ∷ []) × (length r.ref ≡ 1)
unfolding is_block only_non_ref has_non_ref
block_is r h =
    let a = both_of _ _ h in
    let b = both_of _ _ a.0 in
    (go r.alts (eqb-true _ _ b.0) b.1, eqb-true _ _ a.1)
  where
    go : (l : List Allele) → length l ≡ 1 → any_of (same_allele non_ref) l ≡ true → l ≡ non_ref ∷ []
    go [] e k = absurd (omega arith)
    go (x ∷ []) e k =
        let (a, m, same) = any_member _ _ k in
        ap (λ (y : Allele). y ∷ []) (sym (Memᴰ.eq_of_singleton m) ∙ sym (allele_is _ _ same))
    go (x ∷ y ∷ l) e k = absurd (omega arith)

pub is_block_lem : (r : RefAlts) → r.alts ≡ non_ref ∷ [] → length r.ref ≡ 1 → is_block r ≡ true
unfolding is_block only_non_ref has_non_ref any_of same_allele
is_block_lem r h k =
    let only = subst (λ (l : List Allele). (eqb (length l) 1 && any_of (same_allele non_ref) l) ≡ true) (sym h) refl in
    both only (eq-eqb _ _ k)
