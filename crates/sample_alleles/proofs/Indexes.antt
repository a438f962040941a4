-- The numbers of a sample's alleles by the site's ALTs from one on, and by all its alleles.
use Prim.Native.Nat.{◌+◌, ◌<◌, ◌≤◌, ℕ}
use borrow.Author.Tests.{ltb-false, ltb-true, lt-ltb}
use lib.Dec.{eqb, ltb}
use lib.ListN.{drop, length, set, take}
use lib.Seq.{sets}
use mathlib.Core.Bool.{Bool, ◌&&◌, cond, false, true}
use mathlib.Core.List.{List, [], ◌∷◌, map, map-map}
use mathlib.Core.Path.{◌∙◌, ◌≡◌, ap, refl, sym}
use native.Mathlib.Decide.{dec_lt}
use native.Mathlib.Omega.{arith}
use Rattle.definitions.specs.Bytes.{comma, fields_of, same_bytes, text}
use Rattle.definitions.specs.Lists.{numbers_from}
use Rattle.definitions.specs.MergedAlleles.{is_allele, per_sample_map, sample_allele_of}
use Rattle.kv_text.proofs.Fields.{field_first, field_last}
use Rattle.kv_text.specs.Fields.{between, field_length}
use Rattle.laws.proofs.AllelesAsRead.{allele_as_read}
use Rattle.laws.proofs.Members.{map_composed}
use Rattle.laws.proofs.Tests.{both_of}
use Rattle.tables.specs.Tables.{name_at, names_in}
use Rattle.sample_alleles.proofs.Numbers.{no_field, no_number, number_last, number_next, sample_number}
use Rattle.sample_alleles.proofs.Places.{put_over}
use Rattle.sample_alleles.specs.Fields.{AltsAt}
use Rattle.sample_alleles.specs.Readings.{alleles_in, alt_number, each_of, put_where, readings, reads_as, ref_reading}

-- numbers stored over others, each that which is wanted
over : (p : ℕ → Bool) (number : ℕ) (old new : ℕ → ℕ) (count : ℕ) (values : List ℕ) → ((i : ℕ) → cond (p i) number (old i) ≡ new i)
    → put_where p number 0 count (sets values 1 (each_of old count)) ≡ sets values 1 (each_of new count)
over p number old new count values h =
    put_over p number old count values
    ∙ ap (sets values 1) (map_composed (λ i. i) new (λ i. cond (p i) number (old i)) h (numbers_from 0 count) ∙ ap (map new) (same (numbers_from 0 count)))
  where
    same : (l : List ℕ) → map (λ i. i) l ≡ l
    same [] = refl
    same (x ∷ l) = ap (λ (r : List ℕ). x ∷ r) (same l)

-- ---- by the site's ALTs from one on

-- a field follows, and a number
pub follows : (end len n : ℕ) {r : Bool} → r ≡ ltb end len && ltb n 255 → r ≡ true → (end < len) × (n < 255)
follows end len n e h = let (l, m) = both_of (ltb end len) (ltb n 255) (sym e ∙ h) in (ltb-true end len l, ltb-true n 255 m)

-- the numbers for the record's ALTs by the fields from one on
abbrev pub numbers_by : Bool → List ℕ → List ℕ → ℕ → ℕ → List (List ℕ) → List ℕ → List ℕ → ℕ → ℕ
numbers_by starts ref own found n fs alts fields i = alt_number starts ref own found n fs (name_at alts fields i)

module _ (starts : Bool) (ref own alts fields s : List ℕ) (at end n found : ℕ) {now : ℕ} {nonref : Bool} (within : at ≤ length s) (positive : 0 < n)
    (ends : end ≡ at + field_length 44 (drop at s))
    (told : nonref ≡ same_bytes (between s at end) (text "<NON_REF>")) (right : now ≡ cond (eqb found 0) (cond nonref n 0) found)
    (count : ℕ) (values : List ℕ) where
  pub put_next : ltb end (length s) && ltb n 255 ≡ true
      → put_where (λ i. reads_as starts ref own (name_at alts fields i) (between s at end)) n 0 count (sets values 1 (each_of (numbers_by starts ref own now (n + 1) (fields_of comma (drop (end + 1) s)) alts fields) count))
      ≡ sets values 1 (each_of (numbers_by starts ref own found n (fields_of comma (drop at s)) alts fields) count)
  unfolding comma
  put_next h =
      let (l, m) = both_of (ltb end (length s)) (ltb n 255) h in
      let cut = field_first 44 s at end ends (ltb-true _ _ l) in
      rw cut (over _ n _ _ count values (λ i. number_next found n (between s at end) positive told right starts ref own (name_at alts fields i) _ (ltb-true _ _ m)))

  pub put_last : ltb end (length s) && ltb n 255 ≡ false
      → put_where (λ i. reads_as starts ref own (name_at alts fields i) (between s at end)) n 0 count (sets values 1 (each_of (λ _. now) count))
      ≡ sets values 1 (each_of (numbers_by starts ref own found n (fields_of comma (drop at s)) alts fields) count)
  unfolding comma
  put_last h = go (dec_lt end (length s))
    where
      go : Dec (end < length s)
          → put_where (λ i. reads_as starts ref own (name_at alts fields i) (between s at end)) n 0 count (sets values 1 (each_of (λ _. now) count))
          ≡ sets values 1 (each_of (numbers_by starts ref own found n (fields_of 44 (drop at s)) alts fields) count)
      go (yes l) =
          let m : ltb n 255 ≡ false = rw (lt-ltb end (length s) l) at h in
          rw (field_first 44 s at end ends l)
          (over _ n _ _ count values (λ i. number_last found n (between s at end) positive told right starts ref own (name_at alts fields i) (no_number (ltb-false _ _ m))))
      go (no l) =
          rw (field_last 44 s at end ends within (omega arith))
          (over _ n _ _ count values (λ i. number_last found n (between s at end) positive told right starts ref own (name_at alts fields i) no_field))

-- ---- by all its alleles

module _ (starts : Bool) (ref own alternates : List ℕ) {alts fields : List ℕ} {count : ℕ} (at : AltsAt alts fields count) (entry : List ℕ) where
  pub all_numbers_lem : {first : ℕ} → first ≡ 0
      → put_where (λ i. is_allele (allele_as_read (name_at alts fields i)) (ref_reading starts ref own)) 0 0 count
      (sets (set entry 0 first) 1 (each_of (numbers_by starts ref own first 1 (fields_of comma alternates) alts fields) count))
      ≡ sets entry 0 (per_sample_map (take 256 (readings starts ref own alternates)) (alleles_in alts))
  unfolding per_sample_map readings names_in
  all_numbers_lem e =
      let remapped = take 256 (readings starts ref own alternates) in
      rw (e, at.split, map-map (sample_allele_of remapped) allele_as_read (map (name_at alts fields) (numbers_from 0 count)), map-map (λ f. sample_allele_of remapped (allele_as_read f)) (name_at alts fields) (numbers_from 0 count))
      (over _ 0 _ _ count (set entry 0 0) (λ i. sample_number starts ref own (fields_of comma alternates) (name_at alts fields i)))
