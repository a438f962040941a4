-- A site's alleles as they read, case by case of how they are spelled, as the code compares them.
use Prim.Native.Nat.{◌-◌, ◌<◌, ◌≤◌, ℕ}
use borrow.Author.Tests.{le-ltb, lt-ltb}
use lib.Dec.{eqb, ltb}
use lib.ListN.{drop, length, length-append, length-drop, length-map, take, take-append-drop}
use lib.Seq.{drop-append_seam, take_all, take-append_seam}
use mathlib.Core.Bool.{Bool, cond, false, not, true}
use mathlib.Core.List.{List, ◌++◌, ◌∷◌, map, map-append, map-map}
use mathlib.Core.Option.{none, some}
use mathlib.Core.Path.{◌∙◌, ◌≡◌, ap, ap₂, refl, sym}
use native.Mathlib.Omega.{arith}
use Rattle.definitions.specs.Alleles.{Allele, capital, letters, non_ref, same_allele, span_del, spelled}
use Rattle.definitions.specs.Bytes.{and_then, comma, compare_bytes, fields_of, same_bytes, text}
use Rattle.definitions.specs.Lists.{only_if}
use Rattle.definitions.specs.MergedAlleles.{extended_allele, is_allele, remapped_alleles, spanning_reading}
use Rattle.definitions.specs.MergedRef.{site_ref, starts_at}
use Rattle.laws.proofs.Alleles.{allele_flip}
use Rattle.laws.proofs.AllelesAsRead.{allele_as_read, non_ref_as_read, ref_alts_as_read, span_del_as_read}
use Rattle.laws.proofs.Bytes.{is_same, not_same, same_is}
use Rattle.laws.proofs.Capitals.{capitals_extended, letters_other_length, same_letters}
use Rattle.laws.proofs.Members.{drop_map, take_map}
use Rattle.laws.proofs.Tests.{clash}
use Rattle.tables.specs.Tables.{column, part_at, site_at}
use Rattle.sample_alleles.specs.Readings.{alt_reading, readings, reads_as, ref_reading}

-- ---- how a field is spelled

spelled_span_del : (f : List ℕ) → same_bytes f (text "*") ≡ true → allele_as_read f ≡ span_del
unfolding allele_as_read spelled
spelled_span_del f h = rw h

pub spelled_non_ref : (f : List ℕ) → same_bytes f (text "<NON_REF>") ≡ true → allele_as_read f ≡ non_ref
unfolding allele_as_read spelled text same_bytes compare_bytes and_then
spelled_non_ref f h = rw (same_is f (text "<NON_REF>") h)

pub non_ref_spelled : allele_as_read (text "<NON_REF>") ≡ non_ref
non_ref_spelled = spelled_non_ref (text "<NON_REF>") (is_same refl)

spelled_letters : (f : List ℕ) → same_bytes f (text "*") ≡ false → same_bytes f (text "<NON_REF>") ≡ false → allele_as_read f ≡ letters (map capital f)
unfolding allele_as_read spelled
spelled_letters f h k = rw (h, k)

-- ---- an allele of the record beside `*` and `<NON_REF>`

pub is_span_del : (f : List ℕ) → same_allele (allele_as_read f) span_del ≡ same_bytes f (text "*")
unfolding spelled
is_span_del f = allele_flip (allele_as_read f) span_del ∙ span_del_as_read f

pub is_non_ref : (f : List ℕ) → same_allele (allele_as_read f) non_ref ≡ same_bytes f (text "<NON_REF>")
unfolding spelled
is_non_ref f = allele_flip (allele_as_read f) non_ref ∙ non_ref_as_read f

-- ---- an allele of the record beside letters

pub rest : (s : List ℕ) (from : ℕ) → take (length s - from) (drop from s) ≡ drop from s
rest s from = take_all (length s - from) (drop from s) (rw (length-drop from s) (omega arith))

module _ (f t : List ℕ) where
  -- the letters of another text, in either case
  abbrev is_letters : Bool
  is_letters = same_allele (allele_as_read f) (letters (map capital t))

  pub span_del_letters : same_bytes f (text "*") ≡ true → is_letters ≡ false
  unfolding same_allele
  span_del_letters h = rw (spelled_span_del f h)

  non_ref_letters : same_bytes f (text "<NON_REF>") ≡ true → is_letters ≡ false
  unfolding same_allele
  non_ref_letters h = rw (spelled_non_ref f h)

  by_bytes : same_bytes f (text "*") ≡ false → same_bytes f (text "<NON_REF>") ≡ false → is_letters ≡ same_letters f t
  unfolding same_allele
  by_bytes h k = rw (spelled_letters f h k)

  other_letters : same_letters f t ≡ false → is_letters ≡ false
  other_letters h = go (same_bytes f (text "*")) refl (same_bytes f (text "<NON_REF>")) refl
    where
      go : (a : Bool) → same_bytes f (text "*") ≡ a → (b : Bool) → same_bytes f (text "<NON_REF>") ≡ b → is_letters ≡ false
      go true e b k = span_del_letters e
      go false e true k = non_ref_letters k
      go false e false k = by_bytes e k ∙ h

  same_letters_lem : same_bytes f (text "*") ≡ false → same_letters f t ≡ true → not (same_bytes f (text "<NON_REF>")) ≡ is_letters
  same_letters_lem h k = go (same_bytes f (text "<NON_REF>")) refl
    where
      go : (b : Bool) → same_bytes f (text "<NON_REF>") ≡ b → not b ≡ is_letters
      go true e = sym (non_ref_letters e)
      go false e = sym (by_bytes h e ∙ k)

-- letters in two parts
module _ (f p q : List ℕ) where
  pub shorter_letters : length f < length p → is_letters f (p ++ q) ≡ false
  shorter_letters h = other_letters f (p ++ q) (letters_other_length f (p ++ q) (λ e. absurd (omega (arith, e ∙ length-append p q))))

  pub other_length : (length f - length p ≡ length q → ⊥) → is_letters f (p ++ q) ≡ false
  other_length h = other_letters f (p ++ q) (letters_other_length f (p ++ q) (λ e. h (omega (arith, e ∙ length-append p q))))

  pub other_front : same_letters (take (length p) f) p ≡ false → is_letters f (p ++ q) ≡ false
  other_front h = other_letters f (p ++ q) (not_same _ _ (λ e. clash (is_same (front e)) h))
    where
      front : map capital f ≡ map capital (p ++ q) → map capital (take (length p) f) ≡ map capital p
      front e =
          sym (take_map capital f (length p)) ∙ ap (take (length p)) e ∙ take_map capital (p ++ q) (length p)
          ∙ ap (map capital) (take-append_seam p q)

  pub other_tail : same_letters (drop (length p) f) q ≡ false → is_letters f (p ++ q) ≡ false
  other_tail h = other_letters f (p ++ q) (not_same _ _ (λ e. clash (is_same (end e)) h))
    where
      end : map capital f ≡ map capital (p ++ q) → map capital (drop (length p) f) ≡ map capital q
      end e =
          sym (drop_map capital f (length p)) ∙ ap (drop (length p)) e ∙ drop_map capital (p ++ q) (length p)
          ∙ ap (map capital) (drop-append_seam p q)

  pub same_parts : same_letters (take (length p) f) p ≡ true → same_letters (drop (length p) f) q ≡ true → same_bytes f (text "*") ≡ false
      → not (same_bytes f (text "<NON_REF>")) ≡ is_letters f (p ++ q)
  same_parts h k n =
      same_letters_lem f (p ++ q) n
      (is_same (ap (map capital) (sym (take-append-drop (length p) f)) ∙ map-append capital (take (length p) f) (drop (length p) f)
      ∙ ap₂ (λ (a b : List ℕ). a ++ b) (same_is _ _ h) (same_is _ _ k) ∙ sym (map-append capital p q)))

-- ---- an ALT as it reads

module _ (a : Allele) (starts : Bool) (ref own f : List ℕ) where
  pub non_ref_reads : same_bytes f (text "<NON_REF>") ≡ true → is_allele a (alt_reading starts ref own f) ≡ same_allele a non_ref
  unfolding alt_reading extended_allele spanning_reading is_allele
  non_ref_reads h = rw (spelled_non_ref f h) (go starts)
    where
      go : (b : Bool) → is_allele a (cond b (some non_ref) (some non_ref)) ≡ same_allele a non_ref
      go true = refl
      go false = refl

module _ (a : Allele) (ref own f : List ℕ) where
  span_del_reads : same_bytes f (text "*") ≡ true → is_allele a (alt_reading true ref own f) ≡ same_allele a span_del
  unfolding alt_reading extended_allele is_allele
  span_del_reads h = rw (spelled_span_del f h)

  letters_read : same_bytes f (text "*") ≡ false → same_bytes f (text "<NON_REF>") ≡ false
      → is_allele a (alt_reading true ref own f) ≡ same_allele a (letters (map capital (f ++ drop (length own) ref)))
  unfolding alt_reading is_allele extended_allele
  letters_read h k = rw (spelled_letters f h k) (ap (λ (t : List ℕ). same_allele a (letters t)) (capitals_extended f own ref))

  -- of a site that starts earlier, by its length alone
  spanning : same_bytes f (text "<NON_REF>") ≡ false → alt_reading false ref own f ≡ only_if (ltb (length f) (length own)) span_del
  unfolding alt_reading spanning_reading text
  spanning h = go (same_bytes f (text "*")) refl
    where
      go : (b : Bool) → same_bytes f (text "*") ≡ b → spanning_reading (map capital own) (allele_as_read f) ≡ only_if (ltb (length f) (length own)) span_del
      go true e = rw (spelled_span_del f e, same_is f (text "*") e, length-map own capital)
      go false e = rw (spelled_letters f e h, length-map f capital, length-map own capital)

  shorter_reads : same_bytes f (text "<NON_REF>") ≡ false → length f < length own → is_allele a (alt_reading false ref own f) ≡ same_allele a span_del
  unfolding is_allele only_if
  shorter_reads h l = rw (spanning h, lt-ltb _ _ l)

  longer_reads : same_bytes f (text "<NON_REF>") ≡ false → length own ≤ length f → is_allele a (alt_reading false ref own f) ≡ false
  unfolding is_allele only_if
  longer_reads h l = rw (spanning h, le-ltb _ _ l)

-- ---- `<NON_REF>` alone reads as `<NON_REF>`

pub ref_not_non_ref : (starts : Bool) (ref own : List ℕ) → is_allele non_ref (ref_reading starts ref own) ≡ false
unfolding ref_reading is_allele only_if extended_allele same_allele
ref_not_non_ref true ref own = refl
ref_not_non_ref false ref own = refl

pub not_non_ref_reads : (starts : Bool) (ref own f : List ℕ) → same_bytes f (text "<NON_REF>") ≡ false → is_allele non_ref (alt_reading starts ref own f) ≡ false
unfolding is_allele only_if extended_allele same_allele
not_non_ref_reads true ref own f h = go (same_bytes f (text "*")) refl
  where
    go : (b : Bool) → same_bytes f (text "*") ≡ b → is_allele non_ref (alt_reading true ref own f) ≡ false
    go true e = span_del_reads non_ref ref own f e
    go false e = letters_read non_ref ref own f e h
not_non_ref_reads false ref own f h = rw (spanning non_ref ref own f h) (go (ltb (length f) (length own)))
  where
    go : (b : Bool) → is_allele non_ref (only_if b span_del) ≡ false
    go true = refl
    go false = refl

-- ---- which alleles of the record an ALT reads as

pub non_ref_as : (starts : Bool) (ref own g f : List ℕ) → same_bytes f (text "<NON_REF>") ≡ true → reads_as starts ref own g f ≡ false
unfolding reads_as
non_ref_as starts ref own g f h = rw h

module _ (ref own f : List ℕ) (h : same_bytes f (text "<NON_REF>") ≡ false) (g : List ℕ) where
  pub shorter_as : length f < length own → reads_as false ref own g f ≡ same_bytes g (text "*")
  unfolding reads_as
  shorter_as l = rw h (shorter_reads (allele_as_read g) ref own f h l ∙ is_span_del g)

  pub longer_as : length own ≤ length f → reads_as false ref own g f ≡ false
  unfolding reads_as
  longer_as l = rw h (longer_reads (allele_as_read g) ref own f h l)

  pub span_del_as : same_bytes f (text "*") ≡ true → reads_as true ref own g f ≡ same_bytes g (text "*")
  unfolding reads_as
  span_del_as k = rw h (span_del_reads (allele_as_read g) ref own f k ∙ is_span_del g)

  pub letters_as : same_bytes f (text "*") ≡ false → reads_as true ref own g f ≡ is_letters g (f ++ drop (length own) ref)
  unfolding reads_as
  letters_as k = rw h (letters_read (allele_as_read g) ref own f k h)

-- and REF of a site that starts there
pub ref_as : (ref own g : List ℕ) → is_allele (allele_as_read g) (ref_reading true ref own) ≡ is_letters g (own ++ drop (length own) ref)
unfolding ref_reading is_allele only_if extended_allele
ref_as ref own g = ap (λ (t : List ℕ). same_allele (allele_as_read g) (letters t)) (capitals_extended own own ref)

-- ---- the alleles of a site of a table

by_start : (starts : Bool) (ref own alts : List ℕ)
    → cond starts
    (map (λ a. some (extended_allele (map capital ref) (map capital own) a)) (letters (map capital own) ∷ map allele_as_read (fields_of comma alts)))
    (none ∷ map (spanning_reading (map capital own)) (map allele_as_read (fields_of comma alts)))
    ≡ readings starts ref own alts
unfolding readings ref_reading alt_reading only_if
by_start true ref own alts = rw (map-map (λ a. some (extended_allele (map capital ref) (map capital own) a)) allele_as_read (fields_of comma alts))
by_start false ref own alts = rw (map-map (spanning_reading (map capital own)) allele_as_read (fields_of comma alts))

pub site_readings : (ref : List ℕ) (position : ℕ) (s rows : List ℕ) (site : ℕ)
    → remapped_alleles (map capital ref) position (site_at s rows site)
    ≡ readings (eqb (column 2 rows site) position) ref (part_at 9 10 s rows site) (part_at 11 12 s rows site)
unfolding remapped_alleles starts_at site_ref site_at ref_alts_as_read
site_readings ref position s rows site = by_start (eqb (column 2 rows site) position) ref (part_at 9 10 s rows site) (part_at 11 12 s rows site)

-- a site with at most 255 ALTs has no alleles past number 255
pub few_alleles : (ref : List ℕ) (position : ℕ) (s rows : List ℕ) (site : ℕ) → length (fields_of comma (part_at 11 12 s rows site)) ≤ 255
    → take 256 (remapped_alleles ref position (site_at s rows site)) ≡ remapped_alleles ref position (site_at s rows site)
unfolding remapped_alleles site_ref site_at ref_alts_as_read
few_alleles ref position s rows site h = take_all 256 _ (go (starts_at position (site_at s rows site)))
  where
    own : List ℕ
    own = map capital (part_at 9 10 s rows site)

    all : List Allele
    all = map allele_as_read (fields_of comma (part_at 11 12 s rows site))

    few : length all ≤ 255
    few = rw (length-map (fields_of comma (part_at 11 12 s rows site)) allele_as_read) h

    go : (b : Bool)
        → length (cond b (map (λ a. some (extended_allele ref own a)) (letters own ∷ all)) (none ∷ map (spanning_reading own) all)) ≤ 256
    go true = omega (arith, few, length-map all (λ a. some (extended_allele ref own a)))
    go false = omega (arith, few, length-map all (spanning_reading own))
