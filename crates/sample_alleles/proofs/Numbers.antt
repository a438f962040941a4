-- The number for an allele of the record, field by field of the site's ALTs.
use Prim.Native.Nat.{◌+◌, ◌-◌, ◌<◌, ◌≤◌, suc, ℕ}
use borrow.Author.Tests.{lt-ltb, le-ltb, ne_eqb}
use lib.Dec.{eqb, ltb}
use lib.ListN.{take}
use lib.Seq.{take-nil}
use mathlib.Core.Bool.{Bool, cond, false, true}
use mathlib.Core.List.{List, [], ◌∷◌, map}
use mathlib.Core.Option.{Option, get_or, none, or_else, some}
use mathlib.Core.Path.{◌∙◌, ◌≡◌, ap, refl, sym}
use native.Mathlib.Decide.{dec_lt}
use native.Mathlib.Numerals.{add-one}
use native.Mathlib.Omega.{arith}
use Rattle.definitions.specs.Alleles.{Allele, non_ref, same_allele}
use Rattle.definitions.specs.Bytes.{same_bytes, text}
use Rattle.definitions.specs.Lists.{index_where}
use Rattle.definitions.specs.MergedAlleles.{is_allele, sample_allele_of}
use Rattle.sample_alleles.proofs.First.{fails, fails_last, from, numbered_one, passes}
use Rattle.sample_alleles.proofs.Readings.{is_non_ref, non_ref_reads, not_non_ref_reads, ref_not_non_ref, spelled_non_ref}
use Rattle.sample_alleles.specs.Readings.{alt_number, alt_reading, first_from, non_ref_from, reads_as, ref_reading}
use Rattle.laws.proofs.AllelesAsRead.{allele_as_read}

-- ---- the first that passes

alike : (b : Bool) (n : ℕ) → cond b n n ≡ n
alike true n = refl
alike false n = refl

first_same : (p q : List ℕ → Bool) (other n : ℕ) (fs : List (List ℕ)) → ((f : List ℕ) → p f ≡ q f)
    → first_from p other n fs ≡ first_from q other n fs
unfolding first_from
first_same p q other n [] h = refl
first_same p q other n (f ∷ fs) h = rw (h f, first_same p q other (suc n) fs h)

module _ (p : List ℕ → Bool) (other : ℕ) where
  first_none : (n : ℕ) (fs : List (List ℕ)) → ((f : List ℕ) → p f ≡ false) → first_from p other n fs ≡ other
  unfolding first_from
  first_none n [] h = refl
  first_none n (f ∷ fs) h = rw (h f, first_none (suc n) fs h) (alike (ltb n 255) other)

  first_next : (n : ℕ) (f : List ℕ) (fs : List (List ℕ)) → n < 255 → first_from p other n (f ∷ fs) ≡ cond (p f) n (first_from p other (suc n) fs)
  unfolding first_from
  first_next n f fs h = rw (lt-ltb n 255 h)

-- no field, or none with a number, follows
pub data Last (n : ℕ) : List (List ℕ) → Type 0 where
  no_field : Last n []
  no_number : {fs : List (List ℕ)} → 255 ≤ n → Last n fs

first_last : (p : List ℕ → Bool) (other n : ℕ) (f : List ℕ) {fs : List (List ℕ)} → Last n fs → first_from p other n (f ∷ fs) ≡ cond (p f) n other
unfolding first_from
first_last p other n f no_field = rw (alike (ltb n 255) other)
first_last p other n f (no_number h) = rw (le-ltb n 255 h)

-- ---- by the site's ALTs from one on

module _ (found n : ℕ) (f : List ℕ) {nonref : Bool} {now : ℕ} (positive : 0 < n) (told : nonref ≡ same_bytes f (text "<NON_REF>"))
    (right : now ≡ cond (eqb found 0) (cond nonref n 0) found) where
  non_ref_next : (fs : List (List ℕ)) → n < 255 → non_ref_from found n (f ∷ fs) ≡ non_ref_from now (suc n) fs
  unfolding non_ref_from
  non_ref_next fs h =
      let p : List ℕ → Bool = λ g. same_bytes g (text "<NON_REF>") in
      ap (λ (k : ℕ). cond (eqb found 0) k found) (first_next p 0 n f fs h)
      ∙ rw (right, told) (go (eqb found 0) refl (same_bytes f (text "<NON_REF>")))
    where
      go : (b : Bool) → eqb found 0 ≡ b → (r : Bool)
          → cond b (cond r n (first_from (λ g. same_bytes g (text "<NON_REF>")) 0 (suc n) fs)) found
          ≡ cond (eqb (cond b (cond r n 0) found) 0) (first_from (λ g. same_bytes g (text "<NON_REF>")) 0 (suc n) fs) (cond b (cond r n 0) found)
      go true e true = rw (ne_eqb n 0 (λ z. omega arith))
      go true e false = refl
      go false e r = rw e

  non_ref_last : {fs : List (List ℕ)} → Last n fs → non_ref_from found n (f ∷ fs) ≡ now
  unfolding non_ref_from
  non_ref_last {fs} l = ap (λ (k : ℕ). cond (eqb found 0) k found) (first_last (λ g. same_bytes g (text "<NON_REF>")) 0 n f l) ∙ rw (right, told)

  module _ (starts : Bool) (ref own allele : List ℕ) where
    pub number_next : (fs : List (List ℕ)) → n < 255
        → cond (reads_as starts ref own allele f) n (alt_number starts ref own now (n + 1) fs allele) ≡ alt_number starts ref own found n (f ∷ fs) allele
    unfolding alt_number
    number_next fs h =
        rw (add-one n)
        (sym
        (first_next (reads_as starts ref own allele) (non_ref_from found n (f ∷ fs)) n f fs h
        ∙ ap (λ (k : ℕ). cond (reads_as starts ref own allele f) n (first_from (reads_as starts ref own allele) k (suc n) fs)) (non_ref_next fs h)))

    pub number_last : {fs : List (List ℕ)} → Last n fs → cond (reads_as starts ref own allele f) n now ≡ alt_number starts ref own found n (f ∷ fs) allele
    unfolding alt_number
    number_last {fs} l =
        sym
        (first_last (reads_as starts ref own allele) (non_ref_from found n (f ∷ fs)) n f l
        ∙ ap (cond (reads_as starts ref own allele f) n) (non_ref_last l))

-- ---- by all of the site's alleles

module _ {A : Type 0} (q : A → Bool) (reading : List ℕ → A) (other : ℕ) where
  by_number : (n : ℕ) (fs : List (List ℕ)) → n ≤ 255 → from q reading other n fs ≡ first_from (λ f. q (reading f)) other n fs
  unfolding first_from from index_where
  by_number n [] h = rw (take-nil {A = A} (256 - n))
  by_number n (f ∷ fs) h = go (q (reading f)) refl (dec_lt n 255) (λ k. by_number (suc n) fs k)
    where
      go : (b : Bool) → q (reading f) ≡ b → Dec (n < 255)
          → ((k : suc n ≤ 255) → from q reading other (suc n) fs ≡ first_from (λ g. q (reading g)) other (suc n) fs)
          → from q reading other n (f ∷ fs) ≡ first_from (λ g. q (reading g)) other n (f ∷ fs)
      go true e d rest = passes q reading other n f fs h e ∙ rw e
      go false e (yes l) rest = fails q reading other n f fs l e ∙ rw (e, lt-ltb n 255 l, add-one n) (rest l)
      go false e (no l) rest = fails_last q reading other n f fs (omega arith) e ∙ rw (e, le-ltb n 255 (omega arith))

  by_fields : (x : A) (fs : List (List ℕ))
      → get_or (index_where q (take 256 (x ∷ map reading fs))) other ≡ cond (q x) 0 (first_from (λ f. q (reading f)) other 1 fs)
  unfolding index_where from
  by_fields x fs = go (q x) refl
    where
      go : (b : Bool) → q x ≡ b
          → get_or (index_where q (take 256 (x ∷ map reading fs))) other ≡ cond b 0 (first_from (λ f. q (reading f)) other 1 fs)
      go true e = rw e
      go false e = rw e (sym (numbered_one other (index_where q (take 255 (map reading fs)))) ∙ by_number 1 fs (omega arith))

module _ (starts : Bool) (ref own : List ℕ) (fs : List (List ℕ)) where
  is_non_ref_alt : (f : List ℕ) → is_allele non_ref (alt_reading starts ref own f) ≡ same_bytes f (text "<NON_REF>")
  unfolding same_allele
  is_non_ref_alt f = go (same_bytes f (text "<NON_REF>")) refl
    where
      go : (b : Bool) → same_bytes f (text "<NON_REF>") ≡ b → is_allele non_ref (alt_reading starts ref own f) ≡ b
      go true e = non_ref_reads non_ref starts ref own f e
      go false e = not_non_ref_reads starts ref own f e

  non_ref_number_lem : get_or (index_where (is_allele non_ref) (take 256 (ref_reading starts ref own ∷ map (alt_reading starts ref own) fs))) 0 ≡ non_ref_from 0 1 fs
  unfolding non_ref_from
  non_ref_number_lem =
      by_fields (is_allele non_ref) (alt_reading starts ref own) 0 (ref_reading starts ref own) fs
      ∙ rw (ref_not_non_ref starts ref own) (first_same _ _ 0 1 fs is_non_ref_alt)

  module _ (g : List ℕ) where
    -- one that is not `<NON_REF>`
    reads_other : same_bytes g (text "<NON_REF>") ≡ false → (f : List ℕ) → reads_as starts ref own g f ≡ is_allele (allele_as_read g) (alt_reading starts ref own f)
    unfolding reads_as
    reads_other h f = go (same_bytes f (text "<NON_REF>")) refl
      where
        go : (b : Bool) → same_bytes f (text "<NON_REF>") ≡ b
            → cond b false (is_allele (allele_as_read g) (alt_reading starts ref own f)) ≡ is_allele (allele_as_read g) (alt_reading starts ref own f)
        go true e = sym (non_ref_reads (allele_as_read g) starts ref own f e ∙ is_non_ref g ∙ h)
        go false e = refl

    -- `<NON_REF>`
    reads_none : same_bytes g (text "<NON_REF>") ≡ true → (f : List ℕ) → reads_as starts ref own g f ≡ false
    unfolding reads_as
    reads_none h f = rw (spelled_non_ref g h, is_non_ref_alt f) (go (same_bytes f (text "<NON_REF>")))
      where
        go : (b : Bool) → cond b false b ≡ false
        go true = refl
        go false = refl

    pub sample_number : cond (is_allele (allele_as_read g) (ref_reading starts ref own)) 0 (alt_number starts ref own 0 1 fs g)
        ≡ sample_allele_of (take 256 (ref_reading starts ref own ∷ map (alt_reading starts ref own) fs)) (allele_as_read g)
    unfolding alt_number sample_allele_of or_else
    sample_number = go (same_bytes g (text "<NON_REF>")) refl
      where
        twice : (i : Option ℕ) → get_or (or_else i i) 0 ≡ get_or i 0
        twice none = refl
        twice (some k) = refl

        either : (i j : Option ℕ) → get_or (or_else i j) 0 ≡ get_or i (get_or j 0)
        either none j = refl
        either (some k) j = refl

        remapped : List (Option Allele)
        remapped = take 256 (ref_reading starts ref own ∷ map (alt_reading starts ref own) fs)

        go : (b : Bool) → same_bytes g (text "<NON_REF>") ≡ b
            → cond (is_allele (allele_as_read g) (ref_reading starts ref own)) 0 (alt_number starts ref own 0 1 fs g)
            ≡ sample_allele_of (take 256 (ref_reading starts ref own ∷ map (alt_reading starts ref own) fs)) (allele_as_read g)
        go true e =
            rw (first_none (reads_as starts ref own g) (non_ref_from 0 1 fs) 1 fs (reads_none e), spelled_non_ref g e, ref_not_non_ref starts ref own)
            (sym non_ref_number_lem ∙ sym (twice (index_where (is_allele non_ref) remapped)))
        go false e =
            ap (cond (is_allele (allele_as_read g) (ref_reading starts ref own)) 0) (first_same (reads_as starts ref own g) (λ f. is_allele (allele_as_read g) (alt_reading starts ref own f)) (non_ref_from 0 1 fs) 1 fs (reads_other e))
            ∙ sym (by_fields (is_allele (allele_as_read g)) (alt_reading starts ref own) (non_ref_from 0 1 fs) (ref_reading starts ref own) fs)
            ∙ ap (get_or (index_where (is_allele (allele_as_read g)) remapped)) (sym non_ref_number_lem)
            ∙ sym (either (index_where (is_allele (allele_as_read g)) remapped) (index_where (is_allele non_ref) remapped))
