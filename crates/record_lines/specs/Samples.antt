-- What is asked for the lines of the samples of a record, whose sites stand in a table and whose ALTs are text with commas.
use Rattle.std.specs.Prelude.{◌*◌, ◌+◌, ◌<◌, ◌^◌, ◌≤◌, ℕ, length, take, ltb, cond}
use mathlib.Core.List.{List, flat_map, map}
use Rattle.definitions.specs.Bytes.{comma, fields_of}
use Rattle.definitions.specs.Genotypes.{SampleData, missing_data, site_data}
use Rattle.definitions.specs.Printed.{printed_sample_data}
use Rattle.laws.proofs.Every.{Every}
use Rattle.laws.proofs.SoundInput.{SoundSite}
use Rattle.record_laws.proofs.Lengths.{most_data}
use Rattle.sample_alleles.specs.Readings.{alleles_in}
use Rattle.tables.specs.Tables.{site_at}

-- the lines of a sample by its site; what is said of a sample by the row of its site, and the lines of some samples by those rows, where
-- a number past the table's is none; and those of so many samples
abbrev pub printed_site : List ℕ → List ℕ → ℕ → ℕ → List ℕ → List ℕ → List ℕ
printed_site s rows site position ref alts = printed_sample_data (site_data ref (alleles_in alts) position (site_at s rows site))

unfoldable pub data_own : List ℕ → List ℕ → ℕ → List ℕ → List ℕ → ℕ → SampleData
data_own s rows position ref alts own = cond (ltb own (length rows)) (site_data ref (alleles_in alts) position (site_at s rows own)) missing_data

unfoldable pub printed_own : List ℕ → List ℕ → ℕ → List ℕ → List ℕ → List ℕ → List ℕ
printed_own s rows position ref alts own = flat_map printed_sample_data (map (data_own s rows position ref alts) own)

abbrev pub printed_samples : List ℕ → List ℕ → ℕ → List ℕ → ℕ → List ℕ → List ℕ → List ℕ
printed_samples s rows samples own position ref alts = printed_own s rows position ref alts (take samples own)

-- what `put_site_data` asks: a sound site, a record of at most 16 alleles, and that the offset behind the lines fits a usize
pub record SitePrintable (s rows : List ℕ) (site position : ℕ) (ref alts : List ℕ) (at : ℕ) : Type 0 where
  pub sound : SoundSite (site_at s rows site)
  pub few : length (fields_of comma alts) ≤ 15
  pub fits : at + length (printed_site s rows site position ref alts) < 2 ^ 64

-- what `put_sample` asks
pub record SamplePrintable (s rows : List ℕ) (own position : ℕ) (ref alts : List ℕ) (at : ℕ) : Type 0 where
  pub sound : own < length rows → SoundSite (site_at s rows own)
  pub few : length (fields_of comma alts) ≤ 15
  pub fits : at + length (printed_sample_data (data_own s rows position ref alts own)) < 2 ^ 64

-- what `put_own_samples` asks
pub record OwnPrintable (s rows own : List ℕ) (position : ℕ) (ref alts : List ℕ) (at : ℕ) : Type 0 where
  pub sound : Every (λ x. x < length rows → SoundSite (site_at s rows x)) own
  pub few : length (fields_of comma alts) ≤ 15
  pub fits : at + length (printed_own s rows position ref alts own) < 2 ^ 64

-- what `merge_genotypes` asks: an entry for each sample; no sample's lines are longer than `most_data`
pub record SamplesPrintable (s rows : List ℕ) (samples : ℕ) (own alts : List ℕ) (at : ℕ) : Type 0 where
  pub enough : samples ≤ length own
  pub sound : Every (λ x. x < length rows → SoundSite (site_at s rows x)) (take samples own)
  pub few : length (fields_of comma alts) ≤ 15
  pub fits : at + most_data * samples < 2 ^ 64
