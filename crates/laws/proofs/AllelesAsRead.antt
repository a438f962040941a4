-- Alleles by the bytes that spell them, their letters in either case (document 02, Note 6): what a field reads as, which fields read
-- as the same allele, and what is checked of REF and ALTs.
use Prim.Native.Nat.{suc, ℕ}
use lib.Dec.{leb}
use lib.ListN.{length, length-map}
use mathlib.Core.Bool.{Bool, ◌&&◌, cond, false, not, true}
use mathlib.Core.List.{List, [], ◌∷◌, map, map-map}
use mathlib.Core.Option
use mathlib.Core.Option.{Option, bind, none, some}
use mathlib.Core.Path.{◌∙◌, ◌≡◌, ap, ap₂, refl, sym}
use Rattle.definitions.specs.Alleles.{Allele, RefAlts, allele_of, alleles_of, capital, checked_alleles, is_letter, letters, letters_of, non_ref, ref_alts_from, same_allele, span_del, spelled, written_alleles}
use Rattle.definitions.specs.Bytes.{and_then, comma, compare_bytes, fields_of, joined_by, same_bytes, text}
use Rattle.definitions.specs.Lists.{all_distinct, all_of, all_some, any_of, is_there, only_if}
use Rattle.laws.proofs.Alleles.{allele_is, allele_refl}
use Rattle.laws.proofs.Bytes.{is_same, not_same, same_is}
use Rattle.laws.proofs.Capitals.{comma_no_letter, joined_capitals, letters_raised, same_letters}
use Rattle.laws.proofs.Fields.{joined_back}
use Rattle.laws.proofs.SoundValues.{SoundAllele, allele_sound, letters_sound}
use Rattle.laws.proofs.Tests.{bool_ext, both_of, not_there, some_same, told_apart}
use Rattle.laws.proofs.ValuesReadBack.{allele_read_lem}

-- ---- a field

-- the allele that a field reads as, if it is one
unfoldable pub allele_as_read : List ℕ → Allele
allele_as_read f = cond (same_bytes f (spelled span_del)) span_del (cond (same_bytes f (spelled non_ref)) non_ref (letters (map capital f)))

-- it is spelled in capitals; `*` and `<NON_REF>` have no small letters
pub as_read_spelled : (f : List ℕ) → spelled (allele_as_read f) ≡ map capital f
unfolding allele_as_read spelled text capital any_of
as_read_spelled f = go (same_bytes f (spelled span_del)) refl (same_bytes f (spelled non_ref)) refl
  where
    go : (a : Bool) → same_bytes f (spelled span_del) ≡ a → (b : Bool) → same_bytes f (spelled non_ref) ≡ b
        → spelled (cond a span_del (cond b non_ref (letters (map capital f)))) ≡ map capital f
    go true e b k = sym (ap (map capital) (same_is _ _ e))
    go false e true k = sym (ap (map capital) (same_is _ _ k))
    go false e false k = refl

-- beside `*` and `<NON_REF>`, each of which has one spelling
pub span_del_as_read : (f : List ℕ) → same_allele span_del (allele_as_read f) ≡ same_bytes f (spelled span_del)
unfolding allele_as_read same_allele
span_del_as_read f = go (same_bytes f (spelled span_del)) (same_bytes f (spelled non_ref))
  where
    go : (a b : Bool) → same_allele span_del (cond a span_del (cond b non_ref (letters (map capital f)))) ≡ a
    go true b = refl
    go false true = refl
    go false false = refl

pub non_ref_as_read : (f : List ℕ) → same_allele non_ref (allele_as_read f) ≡ same_bytes f (spelled non_ref)
unfolding allele_as_read same_allele spelled text same_bytes compare_bytes and_then
non_ref_as_read f = go (same_bytes f (spelled span_del)) refl (same_bytes f (spelled non_ref)) refl
  where
    go : (a : Bool) → same_bytes f (spelled span_del) ≡ a → (b : Bool) → same_bytes f (spelled non_ref) ≡ b
        → same_allele non_ref (cond a span_del (cond b non_ref (letters (map capital f)))) ≡ b
    go true e b k = sym (ap (λ (g : List ℕ). same_bytes g (spelled non_ref)) (same_is f (spelled span_del) e)) ∙ k
    go false e true k = refl
    go false e false k = refl

module _ (most : ℕ) where
  -- a field that is an ALT
  pub allele_as_read_lem : (f : List ℕ) → is_there (allele_of most f) ≡ true → allele_of most f ≡ some (allele_as_read f)
  unfolding allele_as_read allele_of letters_of only_if is_there
  allele_as_read_lem f h =
      go (same_bytes f (spelled span_del)) (same_bytes f (spelled non_ref))
      (leb 1 (length (map capital f)) && leb (length (map capital f)) most && all_of is_letter (map capital f)) h
    where
      go : (a b t : Bool)
          → is_there (cond a (some span_del) (cond b (some non_ref) (Option.map letters (only_if t (map capital f))))) ≡ true
          → cond a (some span_del) (cond b (some non_ref) (Option.map letters (only_if t (map capital f))))
          ≡ some (cond a span_del (cond b non_ref (letters (map capital f))))
      go true b t h = refl
      go false true t h = refl
      go false false true h = refl
      go false false false h = cc

  pub allele_as_read_sound : (f : List ℕ) → is_there (allele_of most f) ≡ true → SoundAllele most (allele_as_read f)
  allele_as_read_sound f h = allele_sound most f (allele_as_read f) (allele_as_read_lem f h)

  -- letters read as their capitals: they are no `*` and no `<NON_REF>`
  pub letters_as_read : (f : List ℕ) → is_there (letters_of most f) ≡ true → allele_as_read f ≡ letters (map capital f)
  unfolding allele_as_read spelled text capital is_letter any_of all_of
  letters_as_read f h =
      let all = (letters_sound most f (map capital f) (letters_raised most f h)).all_letters in
      rw (
        not_same f (spelled span_del) (told_apart (λ g. all_of is_letter (map capital g)) all refl),
        not_same f (spelled non_ref) (told_apart (λ g. all_of is_letter (map capital g)) all refl),
      )

  -- two ALTs are the same if their capitals are
  pub same_as_read : (f g : List ℕ) → is_there (allele_of most f) ≡ true → is_there (allele_of most g) ≡ true
      → same_allele (allele_as_read f) (allele_as_read g) ≡ same_letters f g
  same_as_read f g h k = bool_ext _ _
      (λ e. is_same (sym (as_read_spelled f) ∙ ap spelled (allele_is _ _ e) ∙ as_read_spelled g))
      (λ e. rw (one (same_is _ _ e)) (allele_refl (allele_as_read g)))
    where
      one : map capital f ≡ map capital g → allele_as_read f ≡ allele_as_read g
      one e = some_same (sym (allele_read_lem most (allele_as_read f) (allele_as_read_sound f h))
          ∙ ap (allele_of most) (as_read_spelled f ∙ e ∙ sym (as_read_spelled g))
          ∙ allele_read_lem most (allele_as_read g) (allele_as_read_sound g k))

  -- ---- several fields

  -- each of them is an ALT
  abbrev pub AllAlleles : List (List ℕ) → Type 0
  AllAlleles fs = all_of (λ f. is_there (allele_of most f)) fs ≡ true

  pub alts_as_read : (fs : List (List ℕ)) → AllAlleles fs → all_some (map (allele_of most) fs) ≡ some (map allele_as_read fs)
  unfolding all_of all_some
  alts_as_read [] h = refl
  alts_as_read (f ∷ fs) h =
      let (first, rest) = both_of _ _ h in
      rw (allele_as_read_lem f first, alts_as_read fs rest)

  pub no_alts : (fs : List (List ℕ)) → all_of (λ f. is_there (allele_of most f)) fs ≡ false → all_some (map (allele_of most) fs) ≡ none
  unfolding all_of all_some is_there
  no_alts [] h = cc
  no_alts (f ∷ fs) h = go (allele_of most f) h (no_alts fs)
    where
      go : (o : Option Allele) → is_there o && all_of (λ f. is_there (allele_of most f)) fs ≡ false
          → (all_of (λ f. is_there (allele_of most f)) fs ≡ false → all_some (map (allele_of most) fs) ≡ none)
          → all_some (o ∷ map (allele_of most) fs) ≡ none
      go none e rest = refl
      go (some a) e rest = rw (rest e)

  pub any_as_read : (f : List ℕ) → is_there (allele_of most f) ≡ true → (fs : List (List ℕ)) → AllAlleles fs
      → any_of (same_allele (allele_as_read f)) (map allele_as_read fs) ≡ any_of (same_letters f) fs
  unfolding all_of any_of
  any_as_read f h [] k = refl
  any_as_read f h (g ∷ fs) k =
      let (first, rest) = both_of _ _ k in
      rw (same_as_read f g h first, any_as_read f h fs rest)

  -- none twice, `alt=G,g` being a repeat
  pub distinct_as_read : (fs : List (List ℕ)) → AllAlleles fs
      → all_distinct same_allele (map allele_as_read fs) ≡ all_distinct same_letters fs
  unfolding all_of all_distinct
  distinct_as_read [] k = refl
  distinct_as_read (f ∷ fs) k =
      let (first, rest) = both_of _ _ k in
      rw (any_as_read f first fs rest, distinct_as_read fs rest)

  -- letters are an ALT too
  pub letters_allele : (f : List ℕ) → is_there (letters_of most f) ≡ true → is_there (allele_of most f) ≡ true
  unfolding allele_of is_there
  letters_allele f h = go (same_bytes f (spelled span_del)) (same_bytes f (spelled non_ref)) (letters_of most f) h
    where
      go : (a b : Bool) (o : Option (List ℕ)) → is_there o ≡ true
          → is_there (cond a (some span_del) (cond b (some non_ref) (Option.map letters o))) ≡ true
      go true b o h = refl
      go false true o h = refl
      go false false none h = h
      go false false (some r) h = refl

-- an ALT value, written again, is its capitals
pub written_as_read : (s : List ℕ) → written_alleles (map allele_as_read (fields_of comma s)) ≡ map capital s
unfolding written_alleles
written_as_read s =
    ap (joined_by comma) (map-map spelled allele_as_read (fields_of comma s) ∙ each (fields_of comma s))
    ∙ joined_capitals comma comma_no_letter.0 comma_no_letter.1 (fields_of comma s)
    ∙ ap (map capital) (joined_back comma s)
  where
    each : (fs : List (List ℕ)) → map (λ f. spelled (allele_as_read f)) fs ≡ map (map capital) fs
    each [] = refl
    each (f ∷ fs) = ap₂ (λ (x : List ℕ) (l : List (List ℕ)). x ∷ l) (as_read_spelled f) (each fs)

-- ---- REF and the ALTs

-- REF and the ALTs that these fields read as
unfoldable pub ref_alts_as_read : List ℕ → List (List ℕ) → RefAlts
ref_alts_as_read ref alts = record { ref = map capital ref; alts = map allele_as_read alts }

-- no two of REF and the ALTs have the same letters
abbrev pub none_twice : List ℕ → List (List ℕ) → Bool
none_twice ref alts = not (any_of (same_letters ref) alts) && all_distinct same_letters alts

never : (b : Bool) → (b && false) ≡ false
never true = refl
never false = refl

module _ (most count : ℕ) (ref : List ℕ) (alts : List (List ℕ)) where
  distinct : is_there (letters_of most ref) ≡ true → AllAlleles most alts
      → all_distinct same_allele (letters (map capital ref) ∷ map allele_as_read alts) ≡ none_twice ref alts
  unfolding all_distinct
  distinct h k =
      rw (← letters_as_read most ref h)
      (rw (any_as_read most ref (letters_allele most ref h) alts k, distinct_as_read most alts k))

  -- Row 5, by the number of fields, by their spelling, and by the letters of REF and the fields
  pub ref_alts_as_read_lem : ref_alts_from most count ref alts
      ≡ only_if
      (leb (suc (length alts)) count
      && (is_there (letters_of most ref) && (all_of (λ f. is_there (allele_of most f)) alts && none_twice ref alts)))
      (ref_alts_as_read ref alts)
  unfolding ref_alts_as_read ref_alts_from bind checked_alleles alleles_of only_if
  ref_alts_as_read_lem = go (is_there (letters_of most ref)) refl (all_of (λ f. is_there (allele_of most f)) alts) refl
    where
      go : (a : Bool) → is_there (letters_of most ref) ≡ a → (b : Bool) → all_of (λ f. is_there (allele_of most f)) alts ≡ b
          → ref_alts_from most count ref alts
          ≡ only_if (leb (suc (length alts)) count && (a && (b && none_twice ref alts))) (ref_alts_as_read ref alts)
      go false e b k = rw (not_there _ e, never (leb (suc (length alts)) count))
      go true e false k = rw (letters_raised most ref e, no_alts most alts k, never (leb (suc (length alts)) count))
      go true e true k = rw (letters_raised most ref e, alts_as_read most alts k, length-map alts allele_as_read, distinct e k)
