-- What walking over the records of a combined list reads and lays.
use Rattle.std.specs.Prelude.{◌*◌, ◌≤◌, suc, ℕ, drop, length, ◌≡◌, Result, Ok, Err}
use mathlib.Core.List.{List, [], ◌++◌, ◌∷◌, flat_map, map}
use Rattle.answers.specs.Answered.{row_of}
use Rattle.answers.specs.declared.Refusal.{Refusal}
use Rattle.definitions.specs.CalledList.{called_records, printed_called_record}
use Rattle.definitions.specs.Checked.{Checked, accepted, read_each, refused}
use Rattle.definitions.specs.Genotypes.{SampleData}
use Rattle.definitions.specs.Limits.{max_samples}
use Rattle.definitions.specs.Lines.{lines_of}
use Rattle.definitions.specs.ListReader.{record_read, with_missing}
use Rattle.definitions.specs.Lists.{any_of, groups_of, is_there, numbers_from}
use Rattle.definitions.specs.Records.{Record}
use Rattle.laws.proofs.SoundRecords.{SoundRecord}
use Rattle.list_header.specs.Measured.{Counted, Measured}
use Rattle.list_reader.specs.RecordGroups.{alts_at, group_lines, record_from, sample_at, without_gt}
use Rattle.list_reader.specs.declared.RecordPlace.{RecordPlace}
use Rattle.tables.specs.Tables.{row_length}
use Rattle.genotype_gvcfs.specs.declared.ListEnd.{ListEnd}

-- what the record groups from an offset on read as, in a list with so many samples and `records`
unfoldable pub records_from : ℕ → ℕ → List ℕ → ℕ → Checked (List Record)
records_from samples records s at =
    read_each (record_read samples records) [] (with_missing records (groups_of (group_lines samples) (lines_of (drop at s))))

-- the called ones among these records are laid over d₀ behind bytes; offset and count are held below their limits
pub record CalledLaid (d₀ bytes : List ℕ) (records : List Record) (out : List ℕ) (at count : ℕ) : Type 0 where
  pub measured : Measured d₀ (bytes ++ flat_map printed_called_record (called_records records)) out at
  pub counted : Counted (length (called_records records)) count

-- ---- one record

-- a record was read behind others, whose called ones are laid; the rows of a table have its samples' data but for GT
pub record LayReady (s : List ℕ) (p : RecordPlace) (rows : List ℕ) (samples : ℕ) (out : List ℕ) (at count : ℕ) : Type 0 where
  pub sample_data : List SampleData
  pub sound : SoundRecord samples (record_from s p.contig p.pos p.end p.alleles sample_data)
  pub table : map without_gt sample_data ≡ map (sample_at s rows) (numbers_from 0 samples)
  pub alleles : p.count ≡ suc (alts_at s p.alleles)
  pub has_pl : p.has_pl ≡ any_of (λ (v : SampleData). is_there v.pl) sample_data
  pub few : samples ≤ max_samples
  pub d₀ : List ℕ
  pub bytes : List ℕ
  pub before : List Record
  pub laid : CalledLaid d₀ bytes before out at count

-- the records with this one behind them
abbrev pub read_with : {s : List ℕ} {p : RecordPlace} {rows : List ℕ} {samples : ℕ} {out : List ℕ} {at count : ℕ}
    → LayReady s p rows samples out at count → List Record
read_with {s} {p} r = r.before ++ (record_from s p.contig p.pos p.end p.alleles r.sample_data ∷ [])

-- ---- all records

-- the table has a row for each sample, and bytes were laid up to the offset
pub record WalkReady (samples : ℕ) (rows out : List ℕ) (at : ℕ) : Type 0 where
  pub few : samples ≤ max_samples
  pub room : max_samples * row_length ≤ length rows
  pub d₀ : List ℕ
  pub bytes : List ℕ
  pub measured : Measured d₀ bytes out at

-- the groups read as these records, at most so many, and the called ones are laid
pub record RecordsLaid (read : Checked (List Record)) (records : ℕ) (d₀ bytes out : List ℕ) (at count : ℕ) : Type 0 where
  pub list : List Record
  pub value : read ≡ accepted list
  pub few : length list ≤ records
  pub laid : CalledLaid d₀ bytes list out at count

-- or a row refuses them
unfoldable pub RecordsWalked : Checked (List Record) → ℕ → List ℕ → List ℕ → List ℕ → Result ListEnd Refusal → Type 0
RecordsWalked read records d₀ bytes out (Ok list) = RecordsLaid read records d₀ bytes out list.at list.count
RecordsWalked read records d₀ bytes out (Err refusal) = read ≡ refused (row_of refusal)
