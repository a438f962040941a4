-- The lines of samples by the rows of their sites.
use Prim.Native.Nat.{◌+◌, ◌<◌, ◌^◌, ◌≤◌, suc, ℕ}
use borrow.Author.Tests.{le-ltb, lt-ltb, ltb-false, ltb-true}
use lib.Dec.{ltb}
use lib.ListN.{drop, drop_of_length-le, get_or, length, length-map, take}
use lib.Seq.{drop-cons, length-take-le}
use mathlib.Core.Bool.{Bool, false, true}
use mathlib.Core.List.{List, [], ◌++◌, flat_map, map}
use mathlib.Core.Path.{◌≡◌, refl, sym}
use native.Mathlib.Numerals.{add-one}
use native.Mathlib.Omega.{arith}
use Rattle.definitions.specs.Bytes.{comma, fields_of}
use Rattle.definitions.specs.Genotypes.{missing_data, site_data}
use Rattle.definitions.specs.Printed.{printed_sample_data}
use Rattle.laws.proofs.AllelesAsRead.{allele_as_read}
use Rattle.laws.proofs.Every.{every_map, every_of_map}
use Rattle.laws.proofs.SampleDataSound.{site_data_sound}
use Rattle.laws.proofs.SoundInput.{SoundSite}
use Rattle.laws.proofs.SoundRecords.{SoundSampleData}
use Rattle.record_laws.proofs.Lengths.{all_data_few}
use Rattle.sample_alleles.specs.Readings.{alleles_in}
use Rattle.tables.proofs.Parts.{column_past}
use Rattle.tables.specs.Tables.{site_at}
use Rattle.record_lines.specs.Samples.{OwnPrintable, SamplePrintable, SamplesPrintable, SitePrintable, data_own, printed_own, printed_samples}

-- ---- a sample by its site

-- a sound site's number is one of the table's
pub sound_row : (s rows : List ℕ) (site : ℕ) → SoundSite (site_at s rows site) → site < length rows
unfolding site_at
sound_row s rows site h = go (ltb site (length rows)) refl
  where
    go : (t : Bool) → ltb site (length rows) ≡ t → site < length rows
    go true e = ltb-true site (length rows) e
    go false e = let past = ltb-false site (length rows) e in absurd (omega (arith, h.from_one, column_past 2 rows site (omega arith)))

module _ (s rows : List ℕ) (position : ℕ) (ref alts : List ℕ) where
  pub data_of_row : {own : ℕ} → own < length rows → data_own s rows position ref alts own ≡ site_data ref (alleles_in alts) position (site_at s rows own)
  unfolding data_own
  data_of_row {own} h = rw (lt-ltb own (length rows) h)

  pub data_of_no_row : {own : ℕ} → length rows ≤ own → data_own s rows position ref alts own ≡ missing_data
  unfolding data_own
  data_of_no_row {own} h = rw (le-ltb own (length rows) h)

  -- what the call for a site asks
  pub site_printable : {own at : ℕ} → SamplePrintable s rows own position ref alts at → own < length rows → SitePrintable s rows own position ref alts at
  site_printable p h = record { sound = p.sound h; few = p.few; fits = rw (data_of_row h) at p.fits }

  -- and what is said of the sample is sound
  pub data_sound : (own : ℕ) → (own < length rows → SoundSite (site_at s rows own))
      → SoundSampleData (suc (length (alleles_in alts))) (data_own s rows position ref alts own)
  unfolding missing_data
  data_sound own h = go (ltb own (length rows)) refl
    where
      go : (t : Bool) → ltb own (length rows) ≡ t → SoundSampleData (suc (length (alleles_in alts))) (data_own s rows position ref alts own)
      go true e = let r = ltb-true own (length rows) e in rw (data_of_row r) (site_data_sound ref (alleles_in alts) position (site_at s rows own) (h r))
      go false e = rw (data_of_no_row (ltb-false own (length rows) e)) (record { gt = tt; gq = tt; dp = tt; mindp = tt; ad = tt; pl = tt })

-- ---- some samples by the rows of their sites

module _ (s rows : List ℕ) (position : ℕ) (ref alts own : List ℕ) where
  pub own_next : (i : ℕ) → i < length own → printed_own s rows position ref alts (drop i own)
      ≡ printed_sample_data (data_own s rows position ref alts (get_or own i 0)) ++ printed_own s rows position ref alts (drop (i + 1) own)
  unfolding printed_own flat_map
  own_next i h = rw (add-one i, drop-cons own i 0 h)

  pub own_none : (i : ℕ) → length own ≤ i → printed_own s rows position ref alts (drop i own) ≡ []
  unfolding printed_own flat_map
  own_none i h = rw (drop_of_length-le own h)

-- ---- so many samples

module _ {s rows : List ℕ} {samples : ℕ} {own alts : List ℕ} {at : ℕ} (p : SamplesPrintable s rows samples own alts at) where
  pub front_count : samples ≡ length (take samples own)
  front_count = sym (length-take-le samples own p.enough)

  -- the offset behind their lines fits
  samples_fit : (position : ℕ) (ref : List ℕ) → at + length (printed_samples s rows samples own position ref alts) < 2 ^ 64
  unfolding printed_own
  samples_fit position ref =
      let count = length-map (fields_of comma alts) allele_as_read in
      let data' = data_own s rows position ref alts in
      let few = all_data_few (suc (length (alleles_in alts))) {vs = map data' (take samples own)} (omega arith) (omega (arith, p.few))
      (every_of_map data' (every_map (data_sound s rows position ref alts) p.sound)) in
      omega (arith, p.fits, length-map (take samples own) data', front_count)

  pub front_printable : (position : ℕ) (ref : List ℕ) → OwnPrintable s rows (take samples own) position ref alts at
  front_printable position ref = record { sound = p.sound; few = p.few; fits = samples_fit position ref }
