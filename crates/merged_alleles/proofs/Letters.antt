-- The letter ALTs of the sites in a table, by the bytes that spell them.
use Prim.Native.Nat.{ℕ}
use lib.Dec.{eqb, ltb}
use lib.ListN.{drop, length, length-map}
use mathlib.Core.Bool.{Bool, cond, false, not, true}
use mathlib.Core.List.{List, [], ◌++◌, ◌∷◌, filter_map, flat_map, map, map-append, reverse, reverse_aux, tail}
use mathlib.Core.Option.{none, some}
use mathlib.Core.Path.{◌∙◌, ◌≡◌, ap, ap₂, refl, sym}
use Rattle.definitions.specs.Alleles.{Allele, capital, letters, non_ref, same_allele, span_del, spelled}
use Rattle.definitions.specs.Bytes.{comma, fields_of, same_bytes}
use Rattle.definitions.specs.Cohort.{Site}
use Rattle.definitions.specs.Lists.{distinct_by, filter_by, only_if}
use Rattle.definitions.specs.MergedAlleles.{extended_allele, letter_allele, letter_alts, remapped_alleles, spanning_reading}
use Rattle.definitions.specs.MergedRef.{site_ref, starts_at}
use Rattle.laws.proofs.AllelesAsRead.{allele_as_read, ref_alts_as_read}
use Rattle.laws.proofs.Members.{drop_map, filter_by_map}
use Rattle.tables.specs.Tables.{column, part_at, site_at}
use Rattle.merged_alleles.proofs.Adding.{added_distinct}
use Rattle.merged_alleles.specs.Alts.{add_all, extended_letters, site_letters, sites_at}

-- ---- one site

no_span_del : (b : Bool) → letter_allele (only_if b span_del) ≡ none
unfolding letter_allele only_if
no_span_del true = refl
no_span_del false = refl

module _ (ref own : List ℕ) where
  abbrev end : List ℕ
  end = drop (length own) ref

  end_raised : drop (length (map capital own)) (map capital ref) ≡ map capital end
  end_raised = ap (λ (n : ℕ). drop n (map capital ref)) (length-map own capital) ∙ drop_map capital ref (length own)

  abbrev extended : Allele → Allele
  extended = extended_allele (map capital ref) (map capital own)

  starting : (fs : List (List ℕ))
      → filter_map letter_allele (map (λ a. some (extended a)) (map allele_as_read fs)) ≡ map letters (flat_map (extended_letters end) fs)
  unfolding filter_map letter_allele extended_allele allele_as_read extended_letters flat_map
  starting [] = refl
  starting (f ∷ fs) = go (same_bytes f (spelled span_del)) (same_bytes f (spelled non_ref)) (starting fs)
    where
      go : (a b : Bool)
          → filter_map letter_allele (map (λ a. some (extended a)) (map allele_as_read fs)) ≡ map letters (flat_map (extended_letters end) fs)
          → filter_map letter_allele (some (extended (cond a span_del (cond b non_ref (letters (map capital f))))) ∷ map (λ a. some (extended a)) (map allele_as_read fs))
          ≡ map letters (cond a [] (cond b [] ((map capital f ++ map capital end) ∷ [])) ++ flat_map (extended_letters end) fs)
      go true b r = r
      go false true r = r
      go false false r = ap₂ (λ (e : List ℕ) (l : List Allele). letters (map capital f ++ e) ∷ l) end_raised r

  -- one that starts earlier reads none as letters
  no_letters : (a : Allele) → letter_allele (spanning_reading own a) ≡ none
  unfolding letter_allele spanning_reading only_if
  no_letters (letters t) = no_span_del (ltb (length t) (length own))
  no_letters span_del = no_span_del (ltb 1 (length own))
  no_letters non_ref = refl

  spanning : (as' : List Allele) → filter_map letter_allele (map (spanning_reading own) as') ≡ []
  unfolding filter_map
  spanning [] = refl
  spanning (a ∷ as') = rw (no_letters a, spanning as')

module _ (s rows ref : List ℕ) (position : ℕ) where
  site_letters_lem : (site : ℕ)
      → filter_map letter_allele (tail (remapped_alleles (map capital ref) position (site_at s rows site))) ≡ map letters (site_letters s rows ref position site)
  unfolding remapped_alleles site_ref starts_at site_at ref_alts_as_read site_letters
  site_letters_lem site = go (eqb (column 2 rows site) position)
    where
      own : List ℕ
      own = part_at 9 10 s rows site

      fs : List (List ℕ)
      fs = fields_of comma (part_at 11 12 s rows site)

      go : (b : Bool)
          → filter_map letter_allele (tail (cond b (map (λ a. some (extended ref own a)) (letters (map capital own) ∷ map allele_as_read fs)) (none ∷ map (spanning_reading (map capital own)) (map allele_as_read fs))))
          ≡ map letters (cond b (flat_map (extended_letters (drop (length own) ref)) fs) [])
      go true = starting ref own fs
      go false = spanning ref (map capital own) (map allele_as_read fs)

-- ---- all sites

reverse_map : {A B : Type 0} (f : A → B) (l : List A) → reverse (map f l) ≡ map f (reverse l)
reverse_map {A} {B} f l = go l []
  where
    go : (s t : List A) → reverse_aux (map f s) (map f t) ≡ map f (reverse_aux s t)
    go [] t = refl
    go (x ∷ s) t = go s (x ∷ t)

distinct_letters : (l : List (List ℕ)) → distinct_by same_allele (map letters l) ≡ map letters (distinct_by same_bytes l)
unfolding distinct_by same_allele
distinct_letters [] = refl
distinct_letters (x ∷ l) =
    ap (λ (t : List Allele). letters x ∷ filter_by (λ y. not (same_allele (letters x) y)) t) (distinct_letters l)
    ∙ ap (λ (t : List Allele). letters x ∷ t) (filter_by_map letters (λ y. not (same_allele (letters x) y)) (distinct_by same_bytes l))

module _ (s rows ref : List ℕ) (position : ℕ) where
  each_site : (sites : List ℕ)
      → flat_map (λ x. filter_map letter_allele (tail (remapped_alleles (map capital ref) position x))) (map (site_at s rows) sites)
      ≡ map letters (flat_map (site_letters s rows ref position) sites)
  unfolding flat_map
  each_site [] = refl
  each_site (x ∷ sites) = rw (site_letters_lem s rows ref position x, each_site sites) (sym (map-append letters (site_letters s rows ref position x) (flat_map (site_letters s rows ref position) sites)))

  pub letters_added : (found : List ℕ)
      → letter_alts (map capital ref) position (sites_at s rows found) ≡ map letters (add_all [] (flat_map (site_letters s rows ref position) (reverse found)))
  unfolding letter_alts
  letters_added found =
      ap (λ (l : List Site). distinct_by same_allele (flat_map (λ x. filter_map letter_allele (tail (remapped_alleles (map capital ref) position x))) l)) (reverse_map (site_at s rows) found)
      ∙ ap (distinct_by same_allele) (each_site (reverse found))
      ∙ distinct_letters all
      ∙ ap (map letters) (sym (added_distinct all))
    where
      all : List (List ℕ)
      all = flat_map (site_letters s rows ref position) (reverse found)
