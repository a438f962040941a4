-- What is found at a position: the covering sites, REF and the ALTs of the record there.
use Rattle.std.specs.Prelude.{◌<◌, ◌≤◌, ℕ, length, take, Bool, List, [], map, ◌≡◌, Option, None, Some, Result, Ok, Err}
use Rattle.answers.specs.Answered.{row_of}
use Rattle.answers.specs.declared.Refusal.{Refusal}
use Rattle.definitions.specs.Alleles.{capital, written_alleles}
use Rattle.definitions.specs.Checked.{accepted, refused}
use Rattle.definitions.specs.Cohort.{Site}
use Rattle.definitions.specs.CombinedList.{interval_record}
use Rattle.definitions.specs.CoveringSites.{covering_sites}
use Rattle.definitions.specs.MergedAlleles.{merged_alts}
use Rattle.definitions.specs.MergedRef.{merged_ref}
use Rattle.laws.proofs.Every.{Every}
use Rattle.merged_alleles.specs.Alts.{AltsWritten}
use Rattle.merged_ref.specs.Answers.{ref_bytes}
use Rattle.merged_ref.specs.declared.RefAt.{RefAt}
use Rattle.tables.specs.Tables.{site_at}
use Rattle.merged_records.specs.Loaded.{OnContig, covering_numbers}
use Rattle.merged_records.specs.declared.FoundRecord.{FoundRecord}

module _ {s rows : List ℕ} {samples : ℕ} {referenced : Bool} {reference contig : List ℕ}
    (on : OnContig s rows samples referenced reference contig) (position : ℕ) where
  abbrev pub covering : List Site
  covering = covering_sites on.loaded.input.cohort contig position

  -- these n sites are found; REF has the letters of this part of a text, as capitals, and the ALTs are these
  pub record RecordTo (found alts : List ℕ) (n : ℕ) (at : RefAt) (len count : ℕ) : Type 0 where
    pub sites : map (site_at s rows) found ≡ covering
    pub known : Every (λ i. i < length on.loaded.input.cohort.sites) found
    pub all : n ≡ length found
    pub some_site : 0 < n
    pub few : n ≤ samples
    pub ref : merged_ref on.loaded.input.reference contig position covering
        ≡ accepted (map capital (ref_bytes s reference at))
    pub text : take len alts ≡ written_alleles (merged_alts (map capital (ref_bytes s reference at)) position covering)
    pub number : count ≡ length (merged_alts (map capital (ref_bytes s reference at)) position covering)
    pub few_alts : count ≤ 15

  -- no site covers the position; or the record is as found, with so many sites in a list; or some cover it and the record is refused, however
  -- far its interval goes
  unfoldable pub RecordFound : (ℕ → List ℕ) → List ℕ → Result (Option FoundRecord) Refusal → Type 0
  RecordFound found alts (Ok None) = covering ≡ []
  RecordFound found alts (Ok (Some r)) = RecordTo (found r.sites) alts r.sites r.reference r.alts.len r.alts.count
  RecordFound found alts (Err r) =
      (0 < length covering)
      × ((last : ℕ) → interval_record on.loaded.input contig (record { first = position; last = last }) ≡ refused (row_of r))

-- a record, or why it is refused, where some site covers the position
abbrev pub some_record : Result FoundRecord Refusal → Result (Option FoundRecord) Refusal
some_record (Ok r) = Ok (Some r)
some_record (Err r) = Err r

-- the ALTs over these sites with this REF are too many (row 13), or are laid
pub record AltsTo (s rows reference : List ℕ) (position : ℕ) (at : RefAt) (found alts : List ℕ) (n : ℕ) (same : RefAt) (len count : ℕ) : Type 0 where
  pub number : n ≡ length found
  pub same_ref : same ≡ at
  pub written : AltsWritten (merged_alts (map capital (ref_bytes s reference at)) position (map (site_at s rows) found)) alts len count

unfoldable pub AltsFound : List ℕ → List ℕ → List ℕ → ℕ → RefAt → List ℕ → List ℕ → Result FoundRecord Refusal → Type 0
AltsFound s rows reference position at found alts (Err r) =
    (row_of r ≡ 13) × (15 < length (merged_alts (map capital (ref_bytes s reference at)) position (map (site_at s rows) found)))
AltsFound s rows reference position at found alts (Ok r) =
    AltsTo s rows reference position at found alts r.sites r.reference r.alts.len r.alts.count

-- these are the numbers of the sites that cover a position of the contig, and there are some
pub record Over (s rows : List ℕ) (samples : ℕ) (referenced : Bool) (reference contig : List ℕ) (position : ℕ) (found : List ℕ) : Type 0 where
  pub on : OnContig s rows samples referenced reference contig
  pub numbers : found ≡ covering_numbers on position
  pub some_site : 0 < length found

-- the lists that are filled are long enough
pub record RecordRoom (samples : ℕ) (found owners alts : List ℕ) : Type 0 where
  pub for_sites : samples ≤ length found
  pub for_owners : samples ≤ length owners
  pub for_alts : 4096 ≤ length alts
