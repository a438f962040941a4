-- REF and ALTs of two lists of covering sites that are the same apart from numbers and order, with one reference.
use Prim.Native.Nat.{◌≤◌, ℕ}
use lib.ListN.{drop, length, length-append}
use lib.Seq.{drop-append_seam}
use mathlib.Core.Bool.{Bool, cond, false, true}
use mathlib.Core.List.Memᴰ
use mathlib.Core.List.{List, [], ◌++◌, ◌∷◌, append-nil, map}
use mathlib.Core.Option.{some}
use mathlib.Core.Path.{◌∙◌, ◌≡◌, ap, ap₂, refl, subst, sym}
use native.Mathlib.Omega.{arith}
use Rattle.definitions.specs.Alleles.{Allele, letters, non_ref, span_del}
use Rattle.definitions.specs.Checked.{accepted}
use Rattle.definitions.specs.ClipAndReference.{ReferenceSegment}
use Rattle.definitions.specs.Cohort.{Site}
use Rattle.definitions.specs.Lists.{any_of, filter_by}
use Rattle.definitions.specs.MergedAlleles.{extended_allele, letter_allele, letter_alts, merged_alts, shows_span_del, span_del_alt}
use Rattle.definitions.specs.MergedRef.{merged_ref, ref_letter, shared_ref, site_ref, starts_at}
use Rattle.laws.proofs.Checked.{accepted_same}
use Rattle.laws.proofs.Members.{◌∈◌, any_member, member_any, nil_of}
use Rattle.laws.proofs.Tests.{clash, not_none}
use Rattle.demands.specs.Inserted.{unnumbered}
use Rattle.demands.proofs.ExtendedAlleles.{letter_from}
use Rattle.demands.proofs.ExtendedRef.{prefix_extends}

-- each covering site has its counterpart, apart from its number
abbrev pub There : List Site → List Site → Type 0
There covering1 covering2 = (s : Site) → s ∈ covering1 → (t : Site) × (t ∈ covering2) × (unnumbered s ≡ unnumbered t)

-- ---- REF

module _ (segments : List ReferenceSegment) (g : List ℕ) (q : ℕ) where
  starts_there : (covering1 covering2 : List Site) → There covering1 covering2
      → any_of (starts_at q) covering1 ≡ true → any_of (starts_at q) covering2 ≡ true
  unfolding starts_at unnumbered
  starts_there covering1 covering2 there h =
      let (s, m, starts) = any_member _ _ h in
      let (t, n, e) = there s m in
      member_any _ _ n (sym (ap (starts_at q) e) ∙ starts)

  -- without a site that starts there it is the reference letter, whatever covers the position
  letter_is : (covering : List Site) (ref : List ℕ) → merged_ref (some segments) g q covering ≡ accepted ref
      → any_of (starts_at q) covering ≡ false → ref_letter (some segments) g q [] ≡ accepted ref
  unfolding merged_ref ref_letter
  letter_is covering ref made e =
      let shared = shared_ref (map site_ref (filter_by (starts_at q) covering)) in
      ap (λ (b : Bool). cond b shared (ref_letter (some segments) g q covering)) (sym e) ∙ made

  pub same_ref : (covering1 covering2 : List Site) (ref1 ref2 : List ℕ)
      → merged_ref (some segments) g q covering1 ≡ accepted ref1
      → merged_ref (some segments) g q covering2 ≡ accepted ref2
      → There covering1 covering2 → There covering2 covering1 → ref1 ≡ ref2
  same_ref covering1 covering2 ref1 ref2 made1 made2 there back = go (any_of (starts_at q) covering1) refl
    where
      none_left : (u : List ℕ) → ref2 ≡ ref1 ++ u → length ref2 ≤ length ref1 → ref1 ≡ ref2
      none_left [] e l = sym (e ∙ append-nil ref1)
      none_left (c ∷ u) e l = absurd (omega (arith, ap length e, length-append ref1 (c ∷ u)))

      go : (b : Bool) → any_of (starts_at q) covering1 ≡ b → ref1 ≡ ref2
      go true e =
          let (s, m, h) = any_member _ _ e in
          let (t, n, h') = any_member _ _ (starts_there covering1 covering2 there e) in
          let (u, is) =
          prefix_extends (some segments) (some segments) g q covering1 covering2 ref1 ref2 made1 made2 there s m h in
          let (v, is') =
          prefix_extends (some segments) (some segments) g q covering2 covering1 ref2 ref1 made2 made1 back t n h' in
          let short : length ref2 ≤ length ref1 = omega (arith, ap length is', length-append ref2 v) in
          none_left u is short
      go false e =
          accepted_same (sym (letter_is covering1 ref1 made1 e)
          ∙ letter_is covering2 ref2 made2 (other (any_of (starts_at q) covering2) refl))
        where
          other : (b : Bool) → any_of (starts_at q) covering2 ≡ b → b ≡ false
          other true f = clash (starts_there covering2 covering1 back f) e
          other false f = refl

-- ---- ALTs

-- where REF stays, an extended allele is the allele
pub extend_self : (ref : List ℕ) (a : Allele) → extended_allele ref ref a ≡ a
unfolding extended_allele
extend_self ref (letters s) =
    let past : drop (length ref) ref ≡ [] = ap (drop (length ref)) (sym (append-nil ref)) ∙ drop-append_seam ref [] in
    ap letters (ap (λ (u : List ℕ). s ++ u) past ∙ append-nil s)
extend_self ref span_del = refl
extend_self ref non_ref = refl

-- ALTs that are all `<NON_REF>` are `<NON_REF>` alone
pub only_non_ref_lem : (ref : List ℕ) (q : ℕ) (covering : List Site) → ((a : Allele) → a ∈ merged_alts ref q covering → a ≡ non_ref)
    → merged_alts ref q covering ≡ non_ref ∷ []
unfolding merged_alts span_del_alt letter_allele
only_non_ref_lem ref q covering h =
    ap₂ (λ (l : List Allele) (b : Bool). l ++ (span_del_alt b ++ (non_ref ∷ [])))
    (nil_of (letter_alts ref q covering) no_letters) (no_span_del (any_of (shows_span_del ref q) covering) refl)
  where
    no_letters : (a : Allele) → a ∈ letter_alts ref q covering → ⊥
    no_letters a m =
        let (s, n, there, is) = letter_from ref q covering m in
        not_none (subst (λ (b : Allele). letter_allele (some b) ≡ some a) (h a (Memᴰ.append_left _ m)) is)

    no_span_del : (b : Bool) → any_of (shows_span_del ref q) covering ≡ b → b ≡ false
    no_span_del true e =
        let m : span_del ∈ merged_alts ref q covering =
        Memᴰ.append_right (letter_alts ref q covering) (Memᴰ.append_left _
        (subst (λ (b : Bool). span_del ∈ span_del_alt b) (sym e) (Memᴰ.head refl))) in
        let z : span_del ≡ non_ref = h span_del m in
        cc
    no_span_del false e = refl
