-- What the rows of the samples' own sites say is what the sites found say.
use Prim.Native.Nat.{◌<◌, ◌≤◌, suc, zero, ℕ}
use lib.Dec.{eqb}
use lib.ListN.{length, length-replicate, replicate, take}
use mathlib.Core.Bool.{Bool, cond, false, true}
use mathlib.Core.List.{List, [], ◌∷◌, map}
use mathlib.Core.Option
use mathlib.Core.Option.{Option, get_or, none, some}
use mathlib.Core.Path.{◌∙◌, ◌≡◌, ap, refl, sym}
use native.Mathlib.Omega.{arith}
use Rattle.definitions.specs.Cohort.{Site}
use Rattle.definitions.specs.Genotypes.{SampleData, data_of_sample}
use Rattle.definitions.specs.Limits.{max_samples}
use Rattle.definitions.specs.Lists.{first_where, numbers_from}
use Rattle.found_sites.proofs.OwnSites.{own_length}
use Rattle.found_sites.specs.Own.{found_at, found_list, own_row, own_rows}
use Rattle.found_sites.specs.declared.Found.{Found}
use Rattle.laws.proofs.Every.{Every, also, every_member, nothing}
use Rattle.laws.proofs.Members.{first_found, first_map}
use Rattle.laws.proofs.SoundInput.{SoundSite}
use Rattle.record_lines.proofs.OwnSamples.{data_of_no_row, data_of_row, sound_row}
use Rattle.record_lines.specs.Samples.{data_own}
use Rattle.sample_alleles.specs.Readings.{alleles_in}
use Rattle.tables.specs.Tables.{column, site_at}
use Rattle.contig_walk.specs.Laying.{own_of}

-- a sample's site among those found
abbrev own_site : List ℕ → List ℕ → ℕ → Option ℕ
own_site rows found sample = first_where (λ i. eqb (column 0 rows i) sample) found

-- its row in the list of sites with their samples
row_of : (rows found : List ℕ) (sample : ℕ) → own_row (found_list found (map (column 0 rows) found)) sample ≡ own_site rows found sample
unfolding found_list first_where
row_of rows [] sample = refl
row_of rows (i ∷ found) sample =
    go (first_where (λ (f : Found). eqb f.sample.0 sample) (found_list found (map (column 0 rows) found))) (own_site rows found sample)
    (eqb (column 0 rows i) sample) (row_of rows found sample)
  where
    go : (o : Option Found) (p : Option ℕ) (t : Bool) → Option.map (λ (f : Found). f.row) o ≡ p
        → Option.map (λ (f : Found). f.row) (cond t (some (found_at i (column 0 rows i))) o) ≡ cond t (some i) p
    go o p true e = refl
    go o p false e = e

module _ (s rows : List ℕ) (position : ℕ) (ref alts found : List ℕ) (sound : Every SoundSite (map (site_at s rows) found)) where
  -- what the sites found say of a sample
  abbrev data_found : ℕ → SampleData
  data_found = data_of_sample ref (alleles_in alts) position (map (site_at s rows) found)

  module _ (sample : ℕ) where
    first_found_site : first_where (λ (z : Site). eqb z.sample sample) (map (site_at s rows) found) ≡ Option.map (site_at s rows) (own_site rows found sample)
    unfolding site_at
    first_found_site = first_map (site_at s rows) (λ (z : Site). eqb z.sample sample) found

    found_sound : {site : ℕ} → own_site rows found sample ≡ some site → SoundSite (site_at s rows site)
    found_sound e = every_member (first_found _ _ (first_found_site ∙ ap (Option.map (site_at s rows)) e)).0 sound

    -- the entry of the sample says its site
    data_of_own : {own : ℕ} → own ≡ get_or (own_site rows found sample) (length rows)
        → (data_own s rows position ref alts own ≡ data_found sample) × (own < length rows → SoundSite (site_at s rows own))
    unfolding data_of_sample
    data_of_own {own} e = go (own_site rows found sample) refl
      where
        go : (o : Option ℕ) → own_site rows found sample ≡ o
            → (data_own s rows position ref alts own ≡ data_found sample) × (own < length rows → SoundSite (site_at s rows own))
        go (some site) f =
            let r : site < length rows = sound_row s rows site (found_sound f) in
            let is : own ≡ site = e ∙ ap (λ (o : Option ℕ). get_or o (length rows)) f in
            rw is (data_of_row s rows position ref alts r ∙ sym (rw (first_found_site, f)), λ _. found_sound f)
        go none f =
            let is : own ≡ length rows = e ∙ ap (λ (o : Option ℕ). get_or o (length rows)) f in
            (data_of_no_row s rows position ref alts (omega arith) ∙ sym (rw (first_found_site, f)), λ h. absurd (omega arith))

  -- the entries of the samples from `first` on
  abbrev list : List Found
  list = found_list found (map (column 0 rows) found)

  abbrev entries : ℕ → ℕ → List ℕ
  entries first n = own_rows list first (replicate n (length rows))

  said : (first : ℕ) → (data_own s rows position ref alts (get_or (own_row list first) (length rows)) ≡ data_found first)
      × (get_or (own_row list first) (length rows) < length rows → SoundSite (site_at s rows (get_or (own_row list first) (length rows))))
  said first = data_of_own first (ap (λ (o : Option ℕ). get_or o (length rows)) (row_of rows found first))

  entries_say : (n count first : ℕ) → count ≤ n
      → map (data_own s rows position ref alts) (take count (entries first n)) ≡ map data_found (numbers_from first count)
  unfolding own_rows numbers_from
  entries_say n zero first h = refl
  entries_say zero (suc count) first h = absurd (omega arith)
  entries_say (suc n) (suc count) first h =
      let here = (said first).0 in
      let rest = entries_say n count (suc first) (omega arith) in
      λ i. here i ∷ rest i

  entries_sound : (n count first : ℕ) → count ≤ n → Every (λ x. x < length rows → SoundSite (site_at s rows x)) (take count (entries first n))
  unfolding own_rows
  entries_sound n zero first h = nothing
  entries_sound zero (suc count) first h = absurd (omega arith)
  entries_sound (suc n) (suc count) first h = also (said first).1 (entries_sound n count (suc first) (omega arith))

  module _ {own : List ℕ} (e : own ≡ own_of rows found) {samples : ℕ} (few : samples ≤ max_samples) where
    pub own_enough : samples ≤ length own
    own_enough =
        let long = ap length e ∙ own_length list 0 (replicate max_samples (length rows)) ∙ length-replicate max_samples (length rows) in
        omega arith

    pub own_data : map (data_own s rows position ref alts) (take samples own) ≡ map data_found (numbers_from 0 samples)
    own_data = rw e (entries_say max_samples samples 0 few)

    pub own_sound : Every (λ x. x < length rows → SoundSite (site_at s rows x)) (take samples own)
    own_sound = rw e (entries_sound max_samples samples 0 few)
