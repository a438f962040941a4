-- The letter of the sites' own REFs by where it stands in the cohort text: that of one site, the loop along the found ones, and that it
-- is the letter of the definitions.
use Prim.Native.Nat.{◌+◌, ◌-◌, ◌<◌, ◌≤◌, ℕ}
use borrow.Author.Tests.{le-ltb, lt-ltb, ltb-false, ltb-true}
use lib.Dec.{ltb}
use lib.ListN.{drop, drop_of_length-le, get_or, length, length-map, take}
use lib.Seq.{drop-cons}
use mathlib.Core.Bool.{Bool, false, true}
use mathlib.Core.List.{List, [], ◌∷◌, map}
use mathlib.Core.Option.{Option, none, or_else, some}
use mathlib.Core.Path.{◌∙◌, ◌≡◌, ap, refl, sym}
use native.Mathlib.Numerals.{add-one}
use Rattle.definitions.specs.Alleles.{capital}
use Rattle.definitions.specs.Lists.{only_if}
use Rattle.definitions.specs.MergedRef.{reached_letter, site_letter, site_ref}
use Rattle.laws.proofs.AllelesAsRead.{ref_alts_as_read}
use Rattle.laws.proofs.Capitals.{capital_at}
use Rattle.laws.proofs.ReachedLetter.{reached_first, reached_later, reached_nothing, site_reaches, site_too_short}
use Rattle.laws.proofs.Tests.{not_none, some_same}
use Rattle.tables.specs.Tables.{column, part_at, site_at}
use Rattle.merged_ref.proofs.Letters.{part_letter}
use Rattle.merged_ref.specs.Answers.{reached_offset, reached_place, sites_at}

-- ---- one site

module _ (s rows : List ℕ) (position site : ℕ) where
  abbrev index : ℕ
  index = position - column 2 rows site

  abbrev allele : List ℕ
  allele = part_at 9 10 s rows site

  pub too_short : length allele ≤ index → none ≡ reached_offset s rows position site
  unfolding reached_offset only_if
  too_short h = rw (le-ltb index (length allele) h)

  pub reaches : index < length allele → some (column 9 rows site + index) ≡ reached_offset s rows position site
  unfolding reached_offset only_if
  reaches h = rw (lt-ltb index (length allele) h)

  -- REF has as many letters
  as_many : length (map capital allele) ≡ length allele
  as_many = length-map allele capital

  -- the site's letter is the capital of the byte there
  site_there : {i : ℕ} → reached_offset s rows position site ≡ some i
      → (byte : ℕ) × (site_letter position (site_at s rows site) ≡ some (capital byte)) × (take 1 (drop i s) ≡ byte ∷ [])
  unfolding reached_offset only_if site_ref site_at ref_alts_as_read part_at
  site_there {i} e = go (ltb index (length allele)) refl e
    where
      go : (b : Bool) → ltb index (length allele) ≡ b → only_if b (column 9 rows site + index) ≡ some i
          → (byte : ℕ) × (site_letter position (site_at s rows site) ≡ some (capital byte)) × (take 1 (drop i s) ≡ byte ∷ [])
      go false h e = not_none e
      go true h e =
          let inside : index < length allele = ltb-true _ _ h in
          let is = part_letter s (column 9 rows site) (column 10 rows site) index inside in
          let letter = site_reaches position (site_at s rows site) (rw as_many inside) in
          (get_or allele index 0, letter ∙ ap {B = Option ℕ} some (capital_at allele index), rw (some_same e) at is)

  site_lacks : reached_offset s rows position site ≡ none → site_letter position (site_at s rows site) ≡ none
  unfolding reached_offset only_if site_ref site_at ref_alts_as_read
  site_lacks e = go (ltb index (length allele)) refl e
    where
      go : (b : Bool) → ltb index (length allele) ≡ b → only_if b (column 9 rows site + index) ≡ none
          → site_letter position (site_at s rows site) ≡ none
      go false h e = site_too_short position (site_at s rows site) (rw as_many (ltb-false _ _ h))
      go true h e = not_none (sym e)

-- ---- sites one after the other

module _ (s rows : List ℕ) (position : ℕ) where
  abbrev offset : ℕ → Option ℕ
  offset = reached_offset s rows position

  abbrev place : List ℕ → Option ℕ
  place = reached_place s rows position

  place_first : (site : ℕ) (found : List ℕ) {i : ℕ} → some i ≡ offset site → some i ≡ place (site ∷ found)
  unfolding reached_place or_else
  place_first site found e = rw (sym e)

  place_later : (site : ℕ) (found : List ℕ) → none ≡ offset site → place found ≡ place (site ∷ found)
  unfolding reached_place or_else
  place_later site found e = rw (sym e)

  -- as the loop goes along: the place in what is left is that in all
  pub record ReachedLeft (found : List ℕ) (k : ℕ) : Type 0 where
    left : place (drop k found) ≡ place found

  pub reached_start : (found : List ℕ) → ReachedLeft found 0
  reached_start found = record { left = refl }

  module _ {found : List ℕ} {k : ℕ} (p : ReachedLeft found k) where
    pub reached_passed : k < length found → none ≡ offset (get_or found k 0) → ReachedLeft found (k + 1)
    reached_passed h e = record { left = rw (add-one k) (place_later _ _ e ∙ rw (drop-cons found k 0 h) at p.left) }

    pub reached_found : {i : ℕ} → k < length found → some i ≡ offset (get_or found k 0) → some i ≡ place found
    reached_found h e = place_first _ _ e ∙ rw (drop-cons found k 0 h) at p.left

    pub reached_absent : length found ≤ k → none ≡ place found
    unfolding reached_place
    reached_absent h = rw (drop_of_length-le found h) at p.left

  -- the letter is the capital of the byte there
  pub reached_there : (found : List ℕ) {i : ℕ} → place found ≡ some i
      → (byte : ℕ) × (reached_letter position (sites_at s rows found) ≡ some (capital byte)) × (take 1 (drop i s) ≡ byte ∷ [])
  unfolding reached_place or_else
  reached_there [] e = not_none e
  reached_there (site ∷ found) {i} e = go (offset site) refl e (λ e. reached_there found e)
    where
      go : (o : Option ℕ) → offset site ≡ o → or_else o (place found) ≡ some i
          → (place found ≡ some i → (byte : ℕ) × (reached_letter position (sites_at s rows found) ≡ some (capital byte)) × (take 1 (drop i s) ≡ byte ∷ []))
          → (byte : ℕ) × (reached_letter position (sites_at s rows (site ∷ found)) ≡ some (capital byte)) × (take 1 (drop i s) ≡ byte ∷ [])
      go none h e later =
          let (byte, is, there) = later e in
          (byte, reached_later position _ _ (site_lacks s rows position site h) ∙ is, there)
      go (some j) h e later =
          let (byte, is, there) = site_there s rows position site (h ∙ e) in
          (byte, reached_first position _ _ is, there)

  pub none_there : (found : List ℕ) → place found ≡ none → reached_letter position (sites_at s rows found) ≡ none
  unfolding reached_place or_else
  none_there [] e = reached_nothing position
  none_there (site ∷ found) e = go (offset site) refl e (λ e. none_there found e)
    where
      go : (o : Option ℕ) → offset site ≡ o → or_else o (place found) ≡ none
          → (place found ≡ none → reached_letter position (sites_at s rows found) ≡ none)
          → reached_letter position (sites_at s rows (site ∷ found)) ≡ none
      go none h e later = reached_later position _ _ (site_lacks s rows position site h) ∙ later e
      go (some j) h e later = not_none (sym e)
