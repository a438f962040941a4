-- A record whose samples' data stand in a table, one row for each sample, and what is asked to lay its lines without `<NON_REF>`.
use Rattle.std.specs.Prelude.{◌+◌, ◌<◌, ◌^◌, ◌≤◌, suc, ℕ, length, Bool, cond, not, true, ◌≡◌}
use mathlib.Core.List.{List, [], ◌++◌, ◌∷◌, flat_map, map}
use Rattle.std.proofs.Math.Option.{none}
use Rattle.definitions.specs.Alleles.{capital, non_ref, same_allele, written_alleles}
use Rattle.definitions.specs.Bytes.{comma, fields_of}
use Rattle.definitions.specs.CalledList.{called_data, called_record, printed_called_record}
use Rattle.definitions.specs.Genotypes.{SampleData}
use Rattle.definitions.specs.Lines.{line}
use Rattle.definitions.specs.ListReader.{counts_fit}
use Rattle.definitions.specs.Lists.{all_of, filter_by, numbers_from}
use Rattle.definitions.specs.Numbers.{decimal, max_number}
use Rattle.definitions.specs.Printed.{printed_values}
use Rattle.definitions.specs.Records.{Record}
use Rattle.laws.proofs.AllelesAsRead.{ref_alts_as_read}
use Rattle.laws.proofs.Every.{Every, IfThere}
use Rattle.sample_alleles.specs.Readings.{alleles_in}
use Rattle.tables.specs.Tables.{ad_at, code_option, column, dp_at, min_dp_at, pl_at}

-- ---- a record in a table

-- what a row says of a sample, all but GT
unfoldable pub row_data : List ℕ → List ℕ → ℕ → SampleData
row_data s rows sample = record {
  gt = none;
  gq = code_option (column 5 rows sample);
  dp = dp_at rows sample;
  mindp = min_dp_at rows sample;
  ad = ad_at s rows sample;
  pl = pl_at s rows sample;
}

-- a sample's data but GT
unfoldable pub without_gt : SampleData → SampleData
without_gt v = record { gt = none; gq = v.gq; dp = v.dp; mindp = v.mindp; ad = v.ad; pl = v.pl }

-- the record with these alleles, as a text spells them, ALTs with commas, whose samples' data are in the first rows; a called record has neither END nor GT
unfoldable pub row_record : List ℕ → List ℕ → ℕ → List ℕ → List ℕ → List ℕ → ℕ → Record
row_record s contig pos ref alts rows samples = record {
  contig = contig;
  pos = pos;
  end = none;
  alleles = ref_alts_as_read ref (fields_of comma alts);
  sample_data = map (row_data s rows) (numbers_from 0 samples);
}

-- r is that record but for END and GT
pub record RecordRows (s contig : List ℕ) (pos : ℕ) (ref alts rows : List ℕ) (samples : ℕ) (r : Record) : Type 0 where
  pub same_contig : r.contig ≡ contig
  pub same_pos : r.pos ≡ pos
  pub same_alleles : r.alleles ≡ ref_alts_as_read ref (fields_of comma alts)
  pub same_data : map without_gt r.sample_data ≡ map (row_data s rows) (numbers_from 0 samples)

-- ---- its lines

-- the bytes of an ALT, unless it is dropped; a comma stands before it if others do
unfoldable pub alt_behind : Bool → Bool → List ℕ → List ℕ
alt_behind others dropped alt = cond dropped [] (cond others (comma ∷ []) [] ++ alt)

-- ALTs with commas, as a text spells them, without `<NON_REF>`
abbrev pub called_alts : List ℕ → List ℕ
called_alts alts = written_alleles (filter_by (λ a. not (same_allele non_ref a)) (alleles_in alts))

abbrev pub alt_line : List ℕ → List ℕ
alt_line alts = line "alt" (called_alts alts)

-- the lines before the samples'
unfoldable pub called_head : List ℕ → ℕ → List ℕ → List ℕ → List ℕ
called_head contig pos ref alts = line "contig" contig ++ line "pos" (decimal pos) ++ line "ref" (map capital ref) ++ alt_line alts

-- the lines of a sample, and of so many samples
abbrev pub called_sample : List ℕ → ℕ → ℕ → List ℕ → ℕ → List ℕ
called_sample s n x rows sample = printed_values (called_data n x (row_data s rows sample))

unfoldable pub called_samples : List ℕ → ℕ → ℕ → List ℕ → ℕ → List ℕ
called_samples s n x rows samples = flat_map (called_sample s n x rows) (numbers_from 0 samples)

-- ---- what is asked

-- PL and AD of a sample, if they are there, are not longer than n alleles allow
pub record Entries (n : ℕ) (v : SampleData) : Type 0 where
  pub ad : IfThere (λ l. length l ≡ n) v.ad
  pub pl : IfThere (λ l. length l ≤ 136) v.pl

-- what `put_called_sample` asks
pub record SamplePrintable (s : List ℕ) (n x : ℕ) (rows : List ℕ) (sample at : ℕ) : Type 0 where
  pub at_least : 2 ≤ n
  pub at_most : n ≤ 16
  pub dropped : x < n
  pub entries : Entries n (row_data s rows sample)
  pub fits : at + length (called_sample s n x rows sample) < 2 ^ 64

-- what `put_called_samples` asks
pub record SamplesPrintable (s : List ℕ) (n x : ℕ) (rows : List ℕ) (samples at : ℕ) : Type 0 where
  pub at_least : 2 ≤ n
  pub at_most : n ≤ 16
  pub dropped : x < n
  pub entries : Every (λ sample. Entries n (row_data s rows sample)) (numbers_from 0 samples)
  pub fits : at + length (called_samples s n x rows samples) < 2 ^ 64

-- what `put_called_head` asks: that the position is a number of a text, and that the offset behind the lines fits a usize
pub record CalledHeadFits (contig : List ℕ) (pos : ℕ) (ref alts : List ℕ) (at : ℕ) : Type 0 where
  pub position : pos ≤ max_number
  pub fits : at + length (called_head contig pos ref alts) < 2 ^ 64

-- what `put_called_record` asks: a position that is a number of a text, at most 16 alleles, PL and AD of each sample with an entry for each genotype and allele, and that the offset behind the lines fits a usize; a sound record of at most 64 samples does (`called_fits` of proofs/SoundCalled.antt)
pub record CalledRecordFits (s contig : List ℕ) (pos : ℕ) (ref alts : List ℕ) (alleles : ℕ) (rows : List ℕ) (samples at : ℕ) : Type 0 where
  pub position : pos ≤ max_number
  pub count : alleles ≡ suc (length (fields_of comma alts))
  pub few : alleles ≤ 16
  pub counts : all_of (counts_fit (ref_alts_as_read ref (fields_of comma alts))) (map (row_data s rows) (numbers_from 0 samples)) ≡ true
  pub fits : at + length (printed_called_record (called_record (row_record s contig pos ref alts rows samples))) < 2 ^ 64
