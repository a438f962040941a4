-- What reading a record group of a called list finds.
use Rattle.std.specs.Prelude as std
use Rattle.std.specs.Prelude.{◌*◌, ◌+◌, ◌<◌, ◌≤◌, suc, ℕ, drop, length, take, Bool, List, map, ◌≡◌}
use Rattle.std.proofs.Math.Option.{Option, none, some}
use Rattle.answers.specs.Answered.{row_of}
use Rattle.answers.specs.declared.Refusal.{Refusal}
use Rattle.bio_ids.specs.declared.GenomePosition.{GenomePosition}
use Rattle.definitions.specs.Answers.{scratch_after}
use Rattle.definitions.specs.Checked.{accepted, in_order, refused}
use Rattle.definitions.specs.Genotypes.{SampleData}
use Rattle.definitions.specs.Limits.{max_alleles}
use Rattle.definitions.specs.Lines.{Line, line_at, lines_of}
use Rattle.definitions.specs.Lists.{all_of, numbers_from}
use Rattle.definitions.specs.Numbers.{name, number, number_list}
use Rattle.definitions.specs.Records.{Record}
use Rattle.definitions.specs.SelectionSheet.{called_data_read, called_lines, called_record_read}
use Rattle.kv_text.specs.Lines.{Behind}
use Rattle.kv_text.specs.declared.Part.{Part}
use Rattle.list_reader.specs.RecordGroups.{PreviousOf, alleles_at, alts_at, right_counts}
use Rattle.list_reader.specs.declared.PreviousRecord.{PreviousRecord}
use Rattle.site_groups.specs.SiteGroups.{Counted, bytes_of, numbers_of}
use Rattle.site_groups.specs.declared.SiteAlleles.{SiteAlleles}
use Rattle.tables.specs.Tables.{name_at}
use Rattle.called_reader.specs.declared.CalledHead.{CalledHead}
use Rattle.called_reader.specs.declared.CalledPlace.{CalledPlace}
use Rattle.called_reader.specs.declared.CalledValues.{CalledValues}
use Rattle.called_reader.specs.declared.SamplesRead.{SamplesRead}

-- the lines of a called record group with so many samples, and those of the group at an offset
abbrev pub group_lines : ℕ → ℕ
group_lines samples = called_lines + called_lines * samples

abbrev pub record_group : List ℕ → ℕ → ℕ → List Line
record_group s at samples = take (group_lines samples) (lines_of (drop at s))

-- ---- a sample

-- its data, of GQ, DP and where AD and PL stand
abbrev pub sample_from : List ℕ → Option ℕ → Option ℕ → CalledValues → SampleData
sample_from s gq dp v = record { gt = none; gq = gq; dp = dp; mindp = none; ad = numbers_of s v.ad; pl = numbers_of s v.pl }

-- the sample with this number reads, in the group with so many samples that begins at `first`, and the next one's lines begin behind it
pub record SampleLines (s : List ℕ) (first samples i : ℕ) (gq dp : Option ℕ) (v : CalledValues) : Type 0 where
  pub value : called_data_read (record_group s first samples) i ≡ accepted (sample_from s gq dp v)
  pub behind : Behind s first (group_lines (suc i)) v.next

pub record SampleTo (s : List ℕ) (at : ℕ) (v : CalledValues) : Type 0 where
  pub gq : Option ℕ
  pub dp : Option ℕ
  pub lines : (first samples i : ℕ) → i < samples → Behind s first (group_lines i) at → SampleLines s first samples i gq dp v
  pub ad_count : Counted s v.ad
  pub pl_count : Counted s v.pl
  pub forward : at < v.next
  pub within : v.next ≤ length s

unfoldable pub SampleRead : List ℕ → ℕ → std.Option CalledValues → Type 0
SampleRead s at (std.Some v) = SampleTo s at v
SampleRead s at std.None = (first samples i : ℕ) → i < samples → Behind s first (group_lines i) at
    → called_data_read (record_group s first samples) i ≡ refused 1

-- ---- the lines of the group

-- the first four lines
pub record HeadLines (s : List ℕ) (at samples : ℕ) (h : CalledHead) : Type 0 where
  pub contig : line_at (record_group s at samples) 0 "contig" name ≡ accepted (bytes_of s h.contig)
  pub pos : line_at (record_group s at samples) 1 "pos" number ≡ accepted h.pos.0
  pub ref : line_at (record_group s at samples) 2 "ref" some ≡ accepted (bytes_of s h.alleles.refs)
  pub alt : line_at (record_group s at samples) 3 "alt" some ≡ accepted (bytes_of s h.alleles.alts)

pub record HeadTo (s : List ℕ) (at : ℕ) (h : CalledHead) : Type 0 where
  pub lines : (samples : ℕ) → HeadLines s at samples h
  pub behind : Behind s at (group_lines 0) h.alleles.next
  pub forward : at < h.alleles.next
  pub within : h.alleles.next ≤ length s

-- row 1 refuses the group at an offset, whatever stands before it
abbrev pub Misspelled : List ℕ → ℕ → ℕ → Type 0
Misspelled s at samples = (records : ℕ) (before : List Record) → called_record_read samples records before (record_group s at samples) ≡ refused 1

unfoldable pub HeadRead : List ℕ → ℕ → std.Option CalledHead → Type 0
HeadRead s at (std.Some h) = HeadTo s at h
HeadRead s at std.None = (samples : ℕ) → Misspelled s at samples

-- all lines: the first four, and what the samples' say
pub record GroupLines (s : List ℕ) (at samples : ℕ) (h : CalledHead) (sample_data : List SampleData) : Type 0 where
  pub first : HeadLines s at samples h
  pub later : in_order (map (called_data_read (record_group s at samples)) (numbers_from 0 samples)) ≡ accepted sample_data

-- the PL of the sample with this number, by the two numbers of the table that say where it stands
unfoldable pub pl_at : List ℕ → List ℕ → ℕ → Option (List ℕ)
pl_at s pls i = number_list (name_at s pls i)

-- the samples' PLs stand where the table says
abbrev pub PlsIn : List ℕ → List ℕ → ℕ → List SampleData → Type 0
PlsIn s pls samples sample_data = map (λ (v : SampleData). v.pl) sample_data ≡ map (pl_at s pls) (numbers_from 0 samples)

pub record TextTo (s : List ℕ) (at samples : ℕ) (pls₀ pls : List ℕ) (h : CalledHead) (r : SamplesRead) : Type 0 where
  pub sample_data : List SampleData
  pub lines : GroupLines s at samples h sample_data
  pub table : PlsIn s pls samples sample_data
  pub rest : drop (2 * samples) pls ≡ drop (2 * samples) pls₀
  pub fit : r.fit ≡ all_of (right_counts s h.alleles) sample_data
  pub behind : Behind s at (group_lines samples) r.next
  pub forward : at < r.next
  pub within : r.next ≤ length s

unfoldable pub TextRead : List ℕ → ℕ → ℕ → List ℕ → List ℕ → std.Option (CalledHead × SamplesRead) → Type 0
TextRead s at samples pls₀ pls (std.Some (h, r)) = TextTo s at samples pls₀ pls h r
TextRead s at samples pls₀ pls std.None = Misspelled s at samples

-- ---- rows 4, 5 and 8

-- the record of these parts of the text, with its samples' data
abbrev pub record_from : List ℕ → Part → GenomePosition → SiteAlleles → List SampleData → Record
record_from s contig pos a sample_data =
    record { contig = bytes_of s contig; pos = pos.0; end = none; alleles = alleles_at s a; sample_data = sample_data }

-- a group whose lines are read, that is to be checked behind the records before it
pub record Ready (s : List ℕ) (h : CalledHead) (last : std.Option PreviousRecord) (fit : Bool) (at samples records : ℕ) (before : List Record)
    (sample_data : List SampleData) : Type 0 where
  pub lines : GroupLines s at samples h sample_data
  pub counted : fit ≡ all_of (right_counts s h.alleles) sample_data
  pub more : length before < records
  pub previous : PreviousOf s before last

-- rows 4, 5 and 8 let it through, with so many alleles
pub record RecordRight (s : List ℕ) (h : CalledHead) (last : std.Option PreviousRecord) (fit : Bool) (n : ℕ) : Type 0 where
  pub value : (at samples records : ℕ) (before : List Record) (sample_data : List SampleData) → Ready s h last fit at samples records before sample_data
      → called_record_read samples records before (record_group s at samples) ≡ accepted (record_from s h.contig h.pos h.alleles sample_data)
  pub count : n ≡ suc (alts_at s h.alleles)
  pub few : n ≤ max_alleles

unfoldable pub RecordChecked : List ℕ → CalledHead → std.Option PreviousRecord → Bool → std.Result ℕ Refusal → Type 0
RecordChecked s h last fit (std.Ok n) = RecordRight s h last fit n
RecordChecked s h last fit (std.Err r) =
    (at samples records : ℕ) (before : List Record) (sample_data : List SampleData) → Ready s h last fit at samples records before sample_data
    → called_record_read samples records before (record_group s at samples) ≡ refused (row_of r)

-- ---- the record

-- The group reads as a record behind all records that end as `last` says, if they are fewer than the list's; the table says where its
-- samples' PLs stand, and behind these it is as it was.
pub record RecordTo (s : List ℕ) (at samples : ℕ) (last : std.Option PreviousRecord) (pls₀ pls : List ℕ) (p : CalledPlace) : Type 0 where
  pub sample_data : List SampleData
  pub value : (records : ℕ) (before : List Record) → length before < records → PreviousOf s before last
      → called_record_read samples records before (record_group s at samples) ≡ accepted (record_from s p.contig p.pos p.alleles sample_data)
  pub table : PlsIn s pls samples sample_data
  pub rest : drop (2 * samples) pls ≡ drop (2 * samples) pls₀
  pub count : p.count ≡ suc (alts_at s p.alleles)
  pub few : p.count ≤ max_alleles
  pub behind : Behind s at (group_lines samples) p.next
  pub forward : at < p.next
  pub within : p.next ≤ length s

-- a row refuses the group behind all such records
abbrev pub RefusedBy : List ℕ → ℕ → ℕ → std.Option PreviousRecord → ℕ → Type 0
RefusedBy s at samples last row = (records : ℕ) (before : List Record) → length before < records → PreviousOf s before last
    → called_record_read samples records before (record_group s at samples) ≡ refused row

-- the row refuses it, and the table is zero
pub record RecordRefused (s : List ℕ) (at samples : ℕ) (last : std.Option PreviousRecord) (pls₀ pls : List ℕ) (row : ℕ) : Type 0 where
  pub value : RefusedBy s at samples last row
  pub cleared : pls ≡ scratch_after pls₀

unfoldable pub RecordRead : List ℕ → ℕ → ℕ → std.Option PreviousRecord → List ℕ → List ℕ → std.Result CalledPlace Refusal → Type 0
RecordRead s at samples last pls₀ pls (std.Ok p) = RecordTo s at samples last pls₀ pls p
RecordRead s at samples last pls₀ pls (std.Err r) = RecordRefused s at samples last pls₀ pls (row_of r)

-- the same with the table left open after a refusal
unfoldable pub RecordFound : List ℕ → ℕ → ℕ → std.Option PreviousRecord → List ℕ → List ℕ → std.Result CalledPlace Refusal → Type 0
RecordFound s at samples last pls₀ pls (std.Ok p) = RecordTo s at samples last pls₀ pls p
RecordFound s at samples last pls₀ pls (std.Err r) = RefusedBy s at samples last (row_of r)
