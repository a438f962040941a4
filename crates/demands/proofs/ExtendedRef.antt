-- REF of a record (`merged_ref` of definitions): what starts there is a prefix of it, and it is extended as samples are put in.
use Prim.Native.Nat.{◌≤◌, ℕ}
use lib.ListN.{drop, length, length-append, take, take-append-drop}
use lib.Seq.{drop-append-le, drop-append_seam}
use mathlib.Core.Bool.{Bool, cond, false, true}
use mathlib.Core.List.Memᴰ
use mathlib.Core.List.{List, [], ◌++◌, map}
use mathlib.Core.Logic.{◌⊎◌, inl, inr}
use mathlib.Core.Option.{Option, none, some}
use mathlib.Core.Path.{◌∙◌, ◌≡◌, ap, refl, sym}
use native.Mathlib.Omega.{arith}
use Rattle.definitions.specs.Alleles.{is_block}
use Rattle.definitions.specs.Bytes.{is_prefix}
use Rattle.definitions.specs.Checked.{accepted}
use Rattle.definitions.specs.ClipAndReference.{ReferenceSegment}
use Rattle.definitions.specs.Cohort.{Site}
use Rattle.definitions.specs.Lists.{all_of, any_of, filter_by}
use Rattle.definitions.specs.MergedRef.{longest, merged_ref, ref_letter, shared_ref, site_ref, starts_at}
use Rattle.laws.proofs.Alleles.{block_is}
use Rattle.laws.proofs.Bytes.{same_is}
use Rattle.laws.proofs.Checked.{accepted_same, after_required, after_then}
use Rattle.laws.proofs.Every.{every_member, every_passed}
use Rattle.laws.proofs.Members.{◌∈◌, any_member, filter_member, member_any, member_filter, member_map}
use Rattle.laws.proofs.MergedRefSound.{longest_in}
use Rattle.demands.specs.Inserted.{unnumbered}
use Rattle.demands.proofs.ExtendedAlleles.{Extends}

-- REF is empty, or the REF of a covering site that starts there
abbrev RefAmong : ℕ → List Site → List ℕ → Type 0
RefAmong q covering ref = (ref ≡ []) ⊎ ((s : Site) × (s ∈ covering) × (starts_at q s ≡ true) × (ref ≡ site_ref s))

-- REF of a record at a position.
module _ (reference : Option (List ReferenceSegment)) (g : List ℕ) (q : ℕ) (covering : List Site)
    (ref : List ℕ) (made : merged_ref reference g q covering ≡ accepted ref) where
  -- the REFs of the sites that start there
  refs : List (List ℕ)
  refs = map site_ref (filter_by (starts_at q) covering)

  -- where a site starts, REF is the longest of these, and each is its prefix
  shared : any_of (starts_at q) covering ≡ true → (all_of (λ r. is_prefix r (longest refs)) refs ≡ true) × (longest refs ≡ ref)
  unfolding merged_ref shared_ref refs
  shared e =
      let h : shared_ref refs ≡ accepted ref =
      ap (λ (b : Bool). cond b (shared_ref refs) (ref_letter reference g q covering)) (sym e) ∙ made in
      after_required _ _ _ h λ t k. (t, accepted_same k)

  -- the REF of a site that starts there is a prefix
  starts_prefix : (s : Site) → s ∈ covering → starts_at q s ≡ true → (u : List ℕ) × (ref ≡ site_ref s ++ u)
  unfolding is_prefix refs
  starts_prefix s m h =
      let (prefixes, is) = shared (member_any _ _ m h) in
      let n = length (site_ref s) in
      let among : site_ref s ∈ refs = Memᴰ.map _ (filter_member _ _ m h) in
      let e : site_ref s ≡ take n (longest refs) = same_is _ _ (every_member among (every_passed _ _ prefixes)) in (
        drop n (longest refs),
        sym is ∙ sym (take-append-drop n (longest refs)) ∙ ap (λ (x : List ℕ). x ++ drop n (longest refs)) (sym e),
      )

  ref_among : any_of (starts_at q) covering ≡ true → RefAmong q covering ref
  unfolding refs
  ref_among e = go (longest_in refs)
    where
      go : (longest refs ≡ []) ⊎ (longest refs ∈ refs) → RefAmong q covering ref
      go (inl z) = inl (sym (shared e).1 ∙ z)
      go (inr m) =
          let (s, among, is) = member_map _ _ m in
          let (n, starts) = member_filter _ _ among in
          inr (s, n, starts, sym (shared e).1 ∙ is)

  -- blocks alone have a one-letter REF
  pub one_letter : ((t : Site) → t ∈ covering → is_block t.alleles ≡ true) → length ref ≡ 1
  unfolding merged_ref ref_letter site_ref
  one_letter blocks = go (any_of (starts_at q) covering) refl
    where
      block_ref : (t : Site) → t ∈ covering → length (site_ref t) ≡ 1
      block_ref t n = (block_is _ (blocks t n)).1

      started : any_of (starts_at q) covering ≡ true → RefAmong q covering ref → length ref ≡ 1
      started e (inl z) =
          let (t, n, starts) = any_member _ _ e in
          let (u, is) = starts_prefix t n starts in
          absurd (omega (arith, block_ref t n, length-append (site_ref t) u, ap length is, ap length z))
      started e (inr (t, n, starts, is)) = ap length is ∙ block_ref t n

      letter : (o : Option (List ReferenceSegment)) → ref_letter o g q covering ≡ accepted ref → length ref ≡ 1
      letter none h = sym (ap length (accepted_same h))
      letter (some l) h = after_then _ _ h λ b p k. ap length (sym (accepted_same k))

      go : (b : Bool) → any_of (starts_at q) covering ≡ b → length ref ≡ 1
      go true e = started e (ref_among e)
      go false e =
          let starting = map site_ref (filter_by (starts_at q) covering) in
          letter reference
          (ap (λ (b : Bool). cond b (shared_ref starting) (ref_letter reference g q covering)) (sym e) ∙ made)

-- REF of an old and of a new record at one position: what starts there in the old one starts in the new one, so REF is extended.
module _ (reference1 reference2 : Option (List ReferenceSegment)) (g : List ℕ) (q : ℕ)
    (covering1 covering2 : List Site) (ref1 ref2 : List ℕ) (made1 : merged_ref reference1 g q covering1 ≡ accepted ref1)
    (made2 : merged_ref reference2 g q covering2 ≡ accepted ref2)
    (there : (s : Site) → s ∈ covering1 → (t : Site) × (t ∈ covering2) × (unnumbered s ≡ unnumbered t)) where
  pub prefix_extends : (s : Site) → s ∈ covering1 → starts_at q s ≡ true → (u : List ℕ) × (ref2 ≡ ref1 ++ u)
  unfolding unnumbered starts_at site_ref
  prefix_extends s m h = go (ref_among reference1 g q covering1 ref1 made1 (member_any _ _ m h))
    where
      go : RefAmong q covering1 ref1 → (u : List ℕ) × (ref2 ≡ ref1 ++ u)
      go (inl z) = (ref2, ap (λ (x : List ℕ). x ++ ref2) (sym z))
      go (inr (s', n, starts, is)) =
          let (t, n', e) = there s' n in
          let (u, is') = starts_prefix reference2 g q covering2 ref2 made2 t n' (sym (ap (starts_at q) e) ∙ starts) in
          (u, is' ∙ ap (λ (x : List ℕ). x ++ u) (sym (ap site_ref e) ∙ sym is))

  -- what the new REF has behind a site's own REF, by the old REF
  pub extends : (s : Site) → s ∈ covering1 → starts_at q s ≡ true → Extends (site_ref s) ref1 ref2
  unfolding Extends
  extends s m h =
      let (t, e1) = starts_prefix reference1 g q covering1 ref1 made1 s m h in
      let (u, e2) = prefix_extends s m h in
      let n = length (site_ref s) in
      let l : n ≤ length ref1 = omega (arith, ap length e1, length-append (site_ref s) t) in
      let past : drop (length ref1) ref2 ≡ u = ap (drop (length ref1)) e2 ∙ drop-append_seam ref1 u in
      ap (drop n) e2 ∙ drop-append-le n ref1 u l ∙ ap (λ (x : List ℕ). drop n ref1 ++ x) (sym past)
