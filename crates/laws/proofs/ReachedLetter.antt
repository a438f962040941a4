-- The letter that the sites' own REFs give at a position where none of them starts, without a reference (document 02, Note 2): of
-- one site (`site_letter`), of sites in the order of samples (`reached_letter`), and REF of the record from it (`ref_letter`).
use Prim.Native.Nat.{◌+◌, ◌-◌, ◌<◌, ◌≤◌, suc, ℕ}
use lib.ListN.{drop, drop_of_length-le, get_or, length, take}
use lib.Seq.{drop-cons}
use mathlib.Core.Bool.{true}
use mathlib.Core.List.{List, [], ◌++◌, ◌∷◌, map}
use mathlib.Core.Option
use mathlib.Core.Option.{Option, none, or_else, some}
use mathlib.Core.Path.{◌∙◌, ◌≡◌, ap, refl, sym}
use native.Mathlib.Omega.{arith}
use Rattle.definitions.specs.Alleles.{is_letter}
use Rattle.definitions.specs.Bytes.{text}
use Rattle.definitions.specs.Checked.{accepted}
use Rattle.definitions.specs.Cohort.{Site}
use Rattle.definitions.specs.Lists.{any_of}
use Rattle.definitions.specs.MergedRef.{reached_letter, ref_letter, site_letter, site_ref, unknown_base}
use Rattle.laws.proofs.Every.{Every, also, every_member, every_passed, nothing}
use Rattle.laws.proofs.Members.{at_below, at_past, below_at, get_d_some, member_at, past_at}
use Rattle.laws.proofs.SoundInput.{SoundSite}
use Rattle.laws.proofs.Tests.{not_none}

-- ---- the letter of one site

-- The site's REF reaches the position if it is longer than the position lies behind the start; it has the letter there.
module _ (position : ℕ) (s : Site) where
  pub site_reaches : position - s.start < length (site_ref s)
      → site_letter position s ≡ some (get_or (site_ref s) (position - s.start) 0)
  unfolding site_letter
  site_reaches h =
      let (letter, e) = at_below (site_ref s) (position - s.start) h in
      e ∙ ap {B = Option ℕ} some (sym (get_d_some (site_ref s) (position - s.start) 0 e))

  pub site_too_short : length (site_ref s) ≤ position - s.start → site_letter position s ≡ none
  unfolding site_letter
  site_too_short h = past_at (site_ref s) (position - s.start) h

  -- back from the letter
  pub site_reaches_back : {letter : ℕ} → site_letter position s ≡ some letter
      → (position - s.start < length (site_ref s)) × (get_or (site_ref s) (position - s.start) 0 ≡ letter)
  unfolding site_letter
  site_reaches_back e =
      (below_at (site_ref s) (position - s.start) e, get_d_some (site_ref s) (position - s.start) 0 e)

  pub site_too_short_back : site_letter position s ≡ none → length (site_ref s) ≤ position - s.start
  unfolding site_letter
  site_too_short_back e = at_past (site_ref s) (position - s.start) e

  -- as a part of REF: one letter long, or empty
  pub site_letter_part : {letter : ℕ} → site_letter position s ≡ some letter
      → take 1 (drop (position - s.start) (site_ref s)) ≡ letter ∷ []
  site_letter_part e =
      let (h, is) = site_reaches_back e in
      rw (drop-cons (site_ref s) (position - s.start) 0 h, is)

  pub no_letter_part : site_letter position s ≡ none → take 1 (drop (position - s.start) (site_ref s)) ≡ []
  no_letter_part e = rw (drop_of_length-le (site_ref s) (site_too_short_back e))

  -- a sound site's letter is one of ACGTN
  pub site_letter_sound : SoundSite s → {letter : ℕ} → site_letter position s ≡ some letter → is_letter letter ≡ true
  unfolding site_letter site_ref
  site_letter_sound sound e =
      every_member (member_at _ _ e) (every_passed is_letter s.alleles.ref sound.alleles.ref.all_letters)

-- the same by positions of the contig: the position lies before the end of REF
pub reaches_by_end : (position : ℕ) (s : Site) → s.start ≤ position → position < s.start + length (site_ref s)
    → position - s.start < length (site_ref s)
reaches_by_end position s h k = omega arith

-- ---- the letter of sites in the order of samples

module _ (position : ℕ) where
  pub reached_nothing : reached_letter position [] ≡ none
  unfolding reached_letter
  reached_nothing = refl

  -- the first site's letter counts, or else that of the later ones
  pub reached_first : (s : Site) (rest : List Site) {letter : ℕ} → site_letter position s ≡ some letter
      → reached_letter position (s ∷ rest) ≡ some letter
  unfolding reached_letter or_else
  reached_first s rest e = rw e

  pub reached_later : (s : Site) (rest : List Site) → site_letter position s ≡ none
      → reached_letter position (s ∷ rest) ≡ reached_letter position rest
  unfolding reached_letter or_else
  reached_later s rest e = rw e

  -- sites behind others count if none of the others reaches
  pub reached_behind : (l rest : List Site) → reached_letter position l ≡ none
      → reached_letter position (l ++ rest) ≡ reached_letter position rest
  unfolding reached_letter or_else
  reached_behind [] rest e = refl
  reached_behind (s ∷ l) rest e = go (site_letter position s) e (λ e. reached_behind l rest e)
    where
      go : (o : Option ℕ) → or_else o (reached_letter position l) ≡ none
          → (reached_letter position l ≡ none → reached_letter position (l ++ rest) ≡ reached_letter position rest)
          → or_else o (reached_letter position (l ++ rest)) ≡ reached_letter position rest
      go none e below = below e
      go (some letter) e below = not_none (sym e)

  pub reached_before : (l rest : List Site) {letter : ℕ} → reached_letter position l ≡ some letter
      → reached_letter position (l ++ rest) ≡ some letter
  unfolding reached_letter or_else
  reached_before [] rest e = not_none e
  reached_before (s ∷ l) rest {letter} e = go (site_letter position s) e (λ e. reached_before l rest e)
    where
      go : (o : Option ℕ) → or_else o (reached_letter position l) ≡ some letter
          → (reached_letter position l ≡ some letter → reached_letter position (l ++ rest) ≡ some letter)
          → or_else o (reached_letter position (l ++ rest)) ≡ some letter
      go none e below = below e
      go (some b) e below = e

  -- one more site at the end
  pub reached_last_lem : (l : List Site) (s : Site) → reached_letter position l ≡ none
      → reached_letter position (l ++ s ∷ []) ≡ site_letter position s
  reached_last_lem l s e = reached_behind l (s ∷ []) e ∙ alone (site_letter position s) refl
    where
      alone : (o : Option ℕ) → site_letter position s ≡ o → reached_letter position (s ∷ []) ≡ site_letter position s
      alone none h = reached_later s [] h ∙ reached_nothing ∙ sym h
      alone (some letter) h = reached_first s [] h ∙ sym h

  -- none reaches, site by site
  pub none_reaches : (l : List Site) → Every (λ s. site_letter position s ≡ none) l → reached_letter position l ≡ none
  none_reaches [] nothing = reached_nothing
  none_reaches (s ∷ l) (also e more) = reached_later s l e ∙ none_reaches l more

  -- sound sites: one of ACGTN
  pub reached_letter_sound : (covering : List Site) → Every SoundSite covering
      → {letter : ℕ} → reached_letter position covering ≡ some letter → is_letter letter ≡ true
  reached_letter_sound [] sound e = not_none (sym reached_nothing ∙ e)
  reached_letter_sound (s ∷ covering) (also sound more) {letter} e =
      go (site_letter position s) refl (λ e. reached_letter_sound covering more e)
    where
      go : (o : Option ℕ) → site_letter position s ≡ o → (reached_letter position covering ≡ some letter → is_letter letter ≡ true)
          → is_letter letter ≡ true
      go none h below = below (sym (reached_later s covering h) ∙ e)
      go (some b) h below = site_letter_sound position s sound (h ∙ sym (reached_first s covering h) ∙ e)

-- ---- a loop along sites given by numbers: what is left is `drop i`

module _ (position : ℕ) (site_of : ℕ → Site) (numbers : List ℕ) (i : ℕ) where
  pub reached_at : i < length numbers → {letter : ℕ} → site_letter position (site_of (get_or numbers i 0)) ≡ some letter
      → reached_letter position (map site_of (drop i numbers)) ≡ some letter
  reached_at h e = rw (drop-cons numbers i 0 h) (reached_first position _ _ e)

  pub passed_at : i < length numbers → site_letter position (site_of (get_or numbers i 0)) ≡ none
      → reached_letter position (map site_of (drop i numbers)) ≡ reached_letter position (map site_of (drop (suc i) numbers))
  passed_at h e = rw (drop-cons numbers i 0 h) (reached_later position _ _ e)

  pub none_left : length numbers ≤ i → reached_letter position (map site_of (drop i numbers)) ≡ none
  none_left h = rw (drop_of_length-le numbers h) (reached_nothing position)

-- ---- REF without a reference

module _ (contig : List ℕ) (position : ℕ) (covering : List Site) where
  pub ref_letter_reached : {letter : ℕ} → reached_letter position covering ≡ some letter
      → ref_letter none contig position covering ≡ accepted (letter ∷ [])
  unfolding ref_letter
  ref_letter_reached e = rw e

  pub ref_letter_unknown : reached_letter position covering ≡ none
      → ref_letter none contig position covering ≡ accepted (unknown_base ∷ [])
  unfolding ref_letter
  ref_letter_unknown e = rw e

pub unknown_base_lem : is_letter unknown_base ≡ true
unfolding unknown_base is_letter text any_of
unknown_base_lem = refl

-- that letter, or `N`, is one of ACGTN
pub reached_or_unknown : (position : ℕ) (covering : List Site) → Every SoundSite covering
    → is_letter (Option.get_or (reached_letter position covering) unknown_base) ≡ true
reached_or_unknown position covering sound = go (reached_letter position covering) refl
  where
    go : (o : Option ℕ) → reached_letter position covering ≡ o → is_letter (Option.get_or o unknown_base) ≡ true
    go none e = unknown_base_lem
    go (some letter) e = reached_letter_sound position covering sound e
