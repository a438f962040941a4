-- What reading a record group of a combined list finds.
use Rattle.std.specs.Prelude as std
use Rattle.std.specs.Prelude.{◌*◌, ◌+◌, ◌<◌, ◌≤◌, suc, ℕ, ltb, drop, length, take, Bool, ◌&&◌, false, true, List, [], ◌∷◌, map, ◌≡◌}
use Rattle.std.proofs.Math.Option.{Option, none, some}
use Rattle.answers.specs.Answered.{row_of}
use Rattle.answers.specs.Options.{option_of}
use Rattle.answers.specs.declared.Refusal.{Refusal}
use Rattle.bio_ids.specs.declared.GenomePosition.{GenomePosition}
use Rattle.definitions.specs.Alleles.{RefAlts}
use Rattle.definitions.specs.Answers.{scratch_after}
use Rattle.definitions.specs.Bytes.{comma, compare_bytes, fields_of}
use Rattle.definitions.specs.Checked.{accepted, in_order, refused}
use Rattle.definitions.specs.Genotypes.{AllelePair, SampleData}
use Rattle.definitions.specs.Limits.{max_alleles}
use Rattle.definitions.specs.Lines.{Line, key_of, line_at, lines_of}
use Rattle.definitions.specs.ListReader.{counts_fit, gt_of, record_lines, record_read, sample_data_read, sample_lines}
use Rattle.definitions.specs.Lists.{all_of, any_of, by_order, is_there, numbers_from}
use Rattle.definitions.specs.Numbers.{name, number, or_missing}
use Rattle.definitions.specs.Records.{Record, record_end}
use Rattle.kv_text.specs.Lines.{Behind, LineFound, LineReads, read_to, unread}
use Rattle.kv_text.specs.declared.Part.{Part}
use Rattle.site_groups.specs.SiteGroups.{Counted, ValuesSmall, bytes_of, numbers_of}
use Rattle.site_groups.specs.declared.SiteAlleles.{SiteAlleles}
use Rattle.site_groups.specs.declared.SiteValues.{SiteValues}
use Rattle.laws.proofs.AllelesAsRead.{ref_alts_as_read}
use Rattle.tables.specs.Tables.{ad_at, code_option, column, dp_at, min_dp_at, pl_at, row_length}
use Rattle.list_reader.specs.declared.PreviousRecord.{PreviousRecord}
use Rattle.list_reader.specs.declared.RecordHead.{RecordHead}
use Rattle.list_reader.specs.declared.RecordPlace.{RecordPlace}
use Rattle.list_reader.specs.declared.SamplesRead.{SamplesRead}

-- the lines of a record group with so many samples, and those of the group at an offset
abbrev pub group_lines : ℕ → ℕ
group_lines samples = record_lines + sample_lines * samples

abbrev pub record_group : List ℕ → ℕ → ℕ → List Line
record_group s at samples = take (group_lines samples) (lines_of (drop at s))

-- ---- a sample

-- what a sample has besides its genotype: GQ, DP, MIN_DP, AD and PL
unfoldable pub without_gt : SampleData → SampleData
without_gt v = record { gt = none; gq = v.gq; dp = v.dp; mindp = v.mindp; ad = v.ad; pl = v.pl }

-- the same from the sample's row in a table
unfoldable pub sample_at : List ℕ → List ℕ → ℕ → SampleData
sample_at s rows i = record {
  gt = none;
  gq = code_option (column 5 rows i);
  dp = dp_at rows i;
  mindp = min_dp_at rows i;
  ad = ad_at s rows i;
  pl = pl_at s rows i;
}

-- a GT that reads in a record with so many ALTs
pub record GtTo (s : List ℕ) (at alts e : ℕ) : Type 0 where
  pub gt : Option AllelePair
  pub line : LineReads s at (key_of "gt") (or_missing (gt_of (suc alts))) (read_to gt e)

unfoldable pub GtRead : List ℕ → ℕ → ℕ → std.Option ℕ → Type 0
GtRead s at alts (std.Some e) = GtTo s at alts e
GtRead s at alts std.None = LineReads s at (key_of "gt") (or_missing (gt_of (suc alts))) unread

-- the data of a genotype and of the other five lines
abbrev pub sample_from : List ℕ → Option AllelePair → SiteValues → SampleData
sample_from s g v = record {
  gt = g;
  gq = option_of v.gq;
  dp = option_of v.dp;
  mindp = option_of v.mindp;
  ad = numbers_of s v.ad;
  pl = numbers_of s v.pl;
}

-- the sample with this number reads, in the group with so many samples that begins at `first`, and the next one's lines begin behind it
pub record SampleLines (s : List ℕ) (first samples i alts : ℕ) (g : Option AllelePair) (v : SiteValues) : Type 0 where
  pub value : sample_data_read (record_group s first samples) (suc alts) i ≡ accepted (sample_from s g v)
  pub behind : Behind s first (group_lines (suc i)) v.next

pub record SampleTo (s : List ℕ) (at alts : ℕ) (v : SiteValues) : Type 0 where
  pub gt : Option AllelePair
  pub lines : (first samples i : ℕ) → i < samples → Behind s first (group_lines i) at → SampleLines s first samples i alts gt v
  pub small : ValuesSmall v
  pub ad_count : Counted s v.ad
  pub pl_count : Counted s v.pl
  pub forward : at < v.next
  pub within : v.next ≤ length s

unfoldable pub SampleRead : List ℕ → ℕ → ℕ → std.Option SiteValues → Type 0
SampleRead s at alts (std.Some v) = SampleTo s at alts v
SampleRead s at alts std.None = (first samples i : ℕ) → i < samples → Behind s first (group_lines i) at
    → sample_data_read (record_group s first samples) (suc alts) i ≡ refused 1

-- ---- END

-- the position, if one is given
abbrev pub end_option : std.Option GenomePosition → Option ℕ
end_option (std.Some p) = some p.0
end_option std.None = none

-- the answers about its line
abbrev pub end_found : std.Option (std.Option GenomePosition × ℕ) → LineFound (Option ℕ)
end_found (std.Some (p, e)) = read_to (end_option p) e
end_found std.None = unread

-- ---- the lines of the group

-- REF and the ALTs that two parts of the text spell, and how many ALTs they are
abbrev pub alleles_at : List ℕ → SiteAlleles → RefAlts
alleles_at s a = ref_alts_as_read (bytes_of s a.refs) (fields_of comma (bytes_of s a.alts))

abbrev pub alts_at : List ℕ → SiteAlleles → ℕ
alts_at s a = length (fields_of comma (bytes_of s a.alts))

-- the first five lines
pub record HeadLines (s : List ℕ) (at samples : ℕ) (h : RecordHead) : Type 0 where
  pub contig : line_at (record_group s at samples) 0 "contig" name ≡ accepted (bytes_of s h.contig)
  pub pos : line_at (record_group s at samples) 1 "pos" number ≡ accepted h.pos.0
  pub end : line_at (record_group s at samples) 2 "end" (or_missing number) ≡ accepted (end_option h.end)
  pub ref : line_at (record_group s at samples) 3 "ref" some ≡ accepted (bytes_of s h.alleles.refs)
  pub alt : line_at (record_group s at samples) 4 "alt" some ≡ accepted (bytes_of s h.alleles.alts)

pub record HeadTo (s : List ℕ) (at : ℕ) (h : RecordHead) : Type 0 where
  pub lines : (samples : ℕ) → HeadLines s at samples h
  pub behind : Behind s at (group_lines 0) h.alleles.next
  pub forward : at < h.alleles.next
  pub within : h.alleles.next ≤ length s

-- row 1 refuses the group at an offset, whatever stands before it
abbrev pub Misspelled : List ℕ → ℕ → ℕ → Type 0
Misspelled s at samples = (records : ℕ) (before : List Record) → record_read samples records before (record_group s at samples) ≡ refused 1

unfoldable pub HeadRead : List ℕ → ℕ → std.Option RecordHead → Type 0
HeadRead s at (std.Some h) = HeadTo s at h
HeadRead s at std.None = (samples : ℕ) → Misspelled s at samples

-- all lines: the first five, and what the samples' say
pub record GroupLines (s : List ℕ) (at samples : ℕ) (h : RecordHead) (sample_data : List SampleData) : Type 0 where
  pub first : HeadLines s at samples h
  pub later : in_order (map (sample_data_read (record_group s at samples) (suc (alts_at s h.alleles))) (numbers_from 0 samples)) ≡ accepted sample_data

-- for at most 16 alleles, row 8 lets a sample through
unfoldable pub right_counts : List ℕ → SiteAlleles → SampleData → Bool
right_counts s a v = ltb (alts_at s a) max_alleles && counts_fit (alleles_at s a) v

pub record TextTo (s : List ℕ) (at samples : ℕ) (rows₀ rows : List ℕ) (h : RecordHead) (r : SamplesRead) : Type 0 where
  pub sample_data : List SampleData
  pub lines : GroupLines s at samples h sample_data
  pub table : map without_gt sample_data ≡ map (sample_at s rows) (numbers_from 0 samples)
  pub rest : drop (samples * row_length) rows ≡ drop (samples * row_length) rows₀
  pub has_pl : r.has_pl ≡ any_of (λ (v : SampleData). is_there v.pl) sample_data
  pub fit : r.fit ≡ all_of (right_counts s h.alleles) sample_data
  pub behind : Behind s at (group_lines samples) r.next
  pub forward : at < r.next
  pub within : r.next ≤ length s

unfoldable pub TextRead : List ℕ → ℕ → ℕ → List ℕ → List ℕ → std.Option (RecordHead × SamplesRead) → Type 0
TextRead s at samples rows₀ rows (std.Some (h, r)) = TextTo s at samples rows₀ rows h r
TextRead s at samples rows₀ rows std.None = Misspelled s at samples

-- ---- rows 4 to 8

-- what stands for the record before: none, or the nearest one's contig and last position
pub record LastRecord (s : List ℕ) (before : List Record) (contig : Part) (end : GenomePosition) : Type 0 where
  pub last : Record
  pub earlier : List Record
  pub nearest : before ≡ last ∷ earlier
  pub on : last.contig ≡ bytes_of s contig
  pub to : record_end last ≡ (end).0

unfoldable pub PreviousOf : List ℕ → List Record → std.Option PreviousRecord → Type 0
PreviousOf s before std.None = before ≡ []
PreviousOf s before (std.Some last) = LastRecord s before last.contig last.end

-- `comes_after` by what stands for the record before
abbrev pub comes_after_last : List ℕ → std.Option PreviousRecord → List ℕ → ℕ → Bool
comes_after_last s std.None contig pos = true
comes_after_last s (std.Some last) contig pos = by_order (compare_bytes (bytes_of s last.contig) contig) true (ltb last.end.0 pos) false

-- the record of these parts of the text, with its samples' data
abbrev pub record_from : List ℕ → Part → GenomePosition → std.Option GenomePosition → SiteAlleles → List SampleData → Record
record_from s contig pos end a sample_data =
    record { contig = bytes_of s contig; pos = pos.0; end = end_option end; alleles = alleles_at s a; sample_data = sample_data }

-- a group whose lines are read, that is to be checked behind the records before it
pub record Ready (s : List ℕ) (h : RecordHead) (last : std.Option PreviousRecord) (fit : Bool) (at samples records : ℕ) (before : List Record)
    (sample_data : List SampleData) : Type 0 where
  pub lines : GroupLines s at samples h sample_data
  pub counted : fit ≡ all_of (right_counts s h.alleles) sample_data
  pub more : length before < records
  pub previous : PreviousOf s before last

-- rows 4 to 8 let it through, with so many alleles
pub record RecordRight (s : List ℕ) (h : RecordHead) (last : std.Option PreviousRecord) (fit : Bool) (n : ℕ) : Type 0 where
  pub value : (at samples records : ℕ) (before : List Record) (sample_data : List SampleData) → Ready s h last fit at samples records before sample_data
      → record_read samples records before (record_group s at samples) ≡ accepted (record_from s h.contig h.pos h.end h.alleles sample_data)
  pub count : n ≡ suc (alts_at s h.alleles)
  pub few : n ≤ max_alleles

unfoldable pub RecordChecked : List ℕ → RecordHead → std.Option PreviousRecord → Bool → std.Result ℕ Refusal → Type 0
RecordChecked s h last fit (std.Ok n) = RecordRight s h last fit n
RecordChecked s h last fit (std.Err r) =
    (at samples records : ℕ) (before : List Record) (sample_data : List SampleData) → Ready s h last fit at samples records before sample_data
    → record_read samples records before (record_group s at samples) ≡ refused (row_of r)

-- ---- the record

-- The group reads as a record behind all records that end as `last` says, if they are fewer than the list's; the table's rows have
-- its samples' data but for GT, and behind them it is as it was.
pub record RecordTo (s : List ℕ) (at samples : ℕ) (last : std.Option PreviousRecord) (rows₀ rows : List ℕ) (p : RecordPlace) : Type 0 where
  pub sample_data : List SampleData
  pub value : (records : ℕ) (before : List Record) → length before < records → PreviousOf s before last
      → record_read samples records before (record_group s at samples) ≡ accepted (record_from s p.contig p.pos p.end p.alleles sample_data)
  pub table : map without_gt sample_data ≡ map (sample_at s rows) (numbers_from 0 samples)
  pub rest : drop (samples * row_length) rows ≡ drop (samples * row_length) rows₀
  pub count : p.count ≡ suc (alts_at s p.alleles)
  pub few : p.count ≤ max_alleles
  pub has_pl : p.has_pl ≡ any_of (λ (v : SampleData). is_there v.pl) sample_data
  pub behind : Behind s at (group_lines samples) p.next
  pub forward : at < p.next
  pub within : p.next ≤ length s

-- a row refuses the group behind all such records
abbrev pub RefusedBy : List ℕ → ℕ → ℕ → std.Option PreviousRecord → ℕ → Type 0
RefusedBy s at samples last row = (records : ℕ) (before : List Record) → length before < records → PreviousOf s before last
    → record_read samples records before (record_group s at samples) ≡ refused row

-- the row refuses it, and the table is zero
pub record RecordRefused (s : List ℕ) (at samples : ℕ) (last : std.Option PreviousRecord) (rows₀ rows : List ℕ) (row : ℕ) : Type 0 where
  pub value : RefusedBy s at samples last row
  pub cleared : rows ≡ scratch_after rows₀

unfoldable pub RecordRead : List ℕ → ℕ → ℕ → std.Option PreviousRecord → List ℕ → List ℕ → std.Result RecordPlace Refusal → Type 0
RecordRead s at samples last rows₀ rows (std.Ok p) = RecordTo s at samples last rows₀ rows p
RecordRead s at samples last rows₀ rows (std.Err r) = RecordRefused s at samples last rows₀ rows (row_of r)

-- the same with the table left open after a refusal
unfoldable pub RecordFound : List ℕ → ℕ → ℕ → std.Option PreviousRecord → List ℕ → List ℕ → std.Result RecordPlace Refusal → Type 0
RecordFound s at samples last rows₀ rows (std.Ok p) = RecordTo s at samples last rows₀ rows p
RecordFound s at samples last rows₀ rows (std.Err r) = RefusedBy s at samples last (row_of r)
