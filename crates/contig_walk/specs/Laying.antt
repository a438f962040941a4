-- What laying the record of an interval asks, and what a turn of the walk leaves.
use Rattle.std.specs.Prelude.{◌+◌, ◌<◌, ◌≤◌, ℕ, length, replicate, Bool, true, ◌≡◌}
use Rattle.std.proofs.lemmas.List.Edits.{sets}
use mathlib.Core.List.{List, ◌++◌, flat_map, map}
use Rattle.std.proofs.Math.Option.{Option}
use Rattle.coalescing.specs.Held.{Holds, PendingFits}
use Rattle.coalescing.specs.Steps.{Progress}
use Rattle.answers.specs.Answered.{row_of}
use Rattle.answers.specs.declared.Refusal.{Refusal}
use Rattle.coalescing.specs.declared.PendingBlock.{PendingBlock}
use Rattle.coalescing.specs.declared.Stepped.{Stepped}
use Rattle.covering_sites.specs.Ended.{Ended}
use Rattle.definitions.specs.Alleles.{capital}
use Rattle.definitions.specs.Checked.{Checked, refused}
use Rattle.definitions.specs.CombinedList.{Input}
use Rattle.definitions.specs.CoveringSites.{covering_sites}
use Rattle.definitions.specs.Intervals.{in_clip}
use Rattle.definitions.specs.Limits.{max_samples}
use Rattle.definitions.specs.Numbers.{max_number}
use Rattle.definitions.specs.Printed.{printed_record}
use Rattle.definitions.specs.Records.{Record, end_of}
use Rattle.merged_records.proofs.Records.{record_alleles, record_data, record_ref}
use Rattle.merged_records.specs.Found.{RecordRoom, RecordTo}
use Rattle.found_sites.specs.Own.{found_list, own_rows}
use Rattle.laws.proofs.IntervalsSound.{SoundInterval}
use Rattle.merged_records.specs.Loaded.{ContigRuns, OnContig}
use Rattle.merged_ref.specs.declared.RefAt.{RefAt}
use Rattle.record_laws.proofs.Walking.{with_interval}
use Rattle.record_laws.specs.Pending.{finish}
use Rattle.tables.specs.Tables.{column}
use Rattle.contig_walk.specs.Walk.{Begun}
use Rattle.std.specs.Prelude as std

-- the row of each sample's own site among those found; a number past the table for none
abbrev pub own_of : List ℕ → List ℕ → List ℕ
own_of rows found = own_rows (found_list found (map (column 0 rows) found)) 0 (replicate max_samples (length rows))

-- the record was found, with REF as a text spells it, its interval is sound, and what is held back can be laid
pub record LayReady (s rows : List ℕ) (samples : ℕ) (contig : List ℕ) (first last : ℕ) (allele : List ℕ) (number : ℕ) (own alts : List ℕ)
    (pending : std.Option PendingBlock) (held fresh : List ℕ) (at : ℕ) : Type 0 where
  pub referenced : Bool
  pub reference : List ℕ
  pub on : OnContig s rows samples referenced reference contig
  pub found : List ℕ
  pub own_is : own ≡ own_of rows found
  pub sites : ℕ
  pub place : RefAt
  pub to : RecordTo on first found alts sites place (length alts) number
  pub allele_is : map capital allele ≡ record_ref on first to
  pub ordered : first ≤ last
  pub in_range_lem : last ≤ max_number
  pub fits : PendingFits contig held pending at
  pub room : 8192 ≤ length held
  pub fresh_room : 8192 ≤ length fresh

module _ {s rows : List ℕ} {samples : ℕ} {contig : List ℕ} {first last : ℕ} {allele : List ℕ} {number : ℕ} {own alts : List ℕ}
    {pending : std.Option PendingBlock} {held fresh : List ℕ} {at : ℕ} where
  -- the record
  abbrev pub laid_record : LayReady s rows samples contig first last allele number own alts pending held fresh at → Record
  laid_record r = record {
    contig = contig;
    pos = first;
    end = end_of (record_alleles r.on first r.to) (record { first = first; last = last });
    alleles = record_alleles r.on first r.to;
    sample_data = record_data r.on first r.to;
  }

-- what is laid and what waits: a list was begun, and this record is held back
pub record Underway (samples : ℕ) (contig held : List ℕ) (pending : std.Option PendingBlock) (out : List ℕ) (at count : ℕ) : Type 0 where
  pub begun : Begun out at count
  pub waiting : Option Record
  pub holds : Holds samples contig held pending waiting

-- the lists that a turn of the walk fills are long enough
pub record TurnRoom (samples : ℕ) (held fresh found owners alts : List ℕ) : Type 0 where
  pub for_held : 8192 ≤ length held
  pub for_fresh : 8192 ≤ length fresh
  pub for_record : RecordRoom samples found owners alts

-- what a turn of the walk is lent: the contig, an interval in the clip that is sound if it has a record, where the searches begin, and what is held back
pub record TurnReady (s rows : List ℕ) (samples : ℕ) (referenced : Bool) (reference contig chosen from bounds : List ℕ)
    (first last : ℕ) (pending : std.Option PendingBlock) (held fresh found owners alts : List ℕ) (at : ℕ) : Type 0 where
  pub runs : ContigRuns s rows samples referenced reference contig chosen bounds
  pub inside : in_clip contig runs.on.loaded.input.clip (record { first = first; last = last }) ≡ true
  pub sound : 0 < length (covering_sites runs.on.loaded.input.cohort contig first) → SoundInterval (record { first = first; last = last })
  pub ended : Ended rows chosen bounds from samples first
  pub fits : PendingFits contig held pending at
  pub room : TurnRoom samples held fresh found owners alts

-- the records that are laid now, and the one that waits: all goes on with them as it would have gone on with the interval
pub record TurnTo (x : Input) (samples : ℕ) (contig held out : List ℕ) (first last : ℕ)
    (waiting : Option Record) (d₀ bytes : List ℕ) (records : ℕ) (r : Stepped) : Type 0 where
  pub laid : List Record
  pub waits : Option Record
  pub holds : Holds samples contig held r.pending waits
  pub progress : Progress d₀ (bytes ++ flat_map printed_record laid) (records + length laid) out r.at r.count
  pub turned : (done : List Record) (later : Checked (List Record))
      → finish done waiting (with_interval x contig (record { first = first; last = last }) later) ≡ finish (done ++ laid) waits later

-- or the interval's record is refused, and nothing is laid
pub record TurnRefused (x : Input) (contig out : List ℕ) (first last : ℕ) (waiting : Option Record)
    (d₀ bytes : List ℕ) (row : ℕ) : Type 0 where
  pub unlaid : out ≡ sets d₀ 0 bytes
  pub refuses : (done : List Record) (later : Checked (List Record))
      → finish done waiting (with_interval x contig (record { first = first; last = last }) later) ≡ refused row

unfoldable pub Turns : Input → ℕ → List ℕ → List ℕ → List ℕ → ℕ → ℕ → Option Record → List ℕ → List ℕ → ℕ → std.Result Stepped Refusal → Type 0
Turns x samples contig held out first last waiting d₀ bytes records (std.Ok step) =
    TurnTo x samples contig held out first last waiting d₀ bytes records step
Turns x samples contig held out first last waiting d₀ bytes records (std.Err refusal) =
    TurnRefused x contig out first last waiting d₀ bytes (row_of refusal)
