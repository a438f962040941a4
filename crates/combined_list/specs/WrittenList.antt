-- What writing the list is lent, and the list that it writes.
use Rattle.std.specs.Prelude.{◌≤◌, ℕ, length, Bool, ◌≡◌}
use mathlib.Core.List.{List, flat_map, map}
use Rattle.definitions.specs.Checked.{Checked, ◌>>=◌, accepted, within}
use Rattle.definitions.specs.CombinedList.{list_of}
use Rattle.definitions.specs.Intervals.{contigs_of}
use Rattle.definitions.specs.Printed.{printed_list, printed_record}
use Rattle.definitions.specs.Records.{Record}
use Rattle.laws.proofs.Every.{Every}
use Rattle.list_header.specs.HeaderNames.{HeaderNames}
use Rattle.merged_records.specs.Loaded.{Loaded}
use Rattle.tables.specs.Tables.{names_in, part_at}
use Rattle.combined_list.specs.Contigs.{Grouped, IsFirst, all_records}
use Rattle.contig_walk.specs.Walk.{ClipGiven}

-- the tables hold the cohort, and clip and reference are in order
pub record CallLoaded (s names rows : List ℕ) (samples sites : ℕ) (clipped : Bool) (clip : List ℕ) (referenced : Bool) (reference : List ℕ) : Type 0 where
  pub loaded : Loaded s rows samples referenced reference
  pub clip_given : ClipGiven clipped clip loaded.input
  pub header : HeaderNames s names samples
  pub names_are : loaded.input.cohort.names ≡ names_in s names samples
  pub all_sites : sites ≡ length loaded.input.cohort.sites

-- lists that are filled have room for so many sites: their numbers by sample, those of first sites on a contig, and those on a contig
pub record ListsFit (sites : ℕ) (order firsts chosen : List ℕ) : Type 0 where
  pub for_order : sites ≤ length order
  pub for_firsts : sites ≤ length firsts
  pub for_chosen : length order ≤ length chosen

-- the list of an input with so many scratch places, if there is so much room
abbrev pub list_within : {s rows : List ℕ} {samples : ℕ} {referenced : Bool} {reference : List ℕ}
    → Loaded s rows samples referenced reference → ℕ → ℕ → Checked (List ℕ)
list_within l places room = list_of l.input places >>= within room

-- the tables with the sites grouped by sample, and the contigs by their first sites, in byte order of name
pub record ListReady (s names rows : List ℕ) (samples : ℕ) (clipped : Bool) (clip : List ℕ) (referenced : Bool) (reference contigs order bounds : List ℕ) : Type 0 where
  pub tables : Grouped s rows samples clipped clip referenced reference order bounds
  pub in_order_lem : map (part_at 7 8 s rows) contigs ≡ contigs_of tables.loaded.input.cohort.sites
  pub firsts : Every (IsFirst tables) contigs
  pub header : HeaderNames s names samples
  pub names_are : tables.loaded.input.cohort.names ≡ names_in s names samples

-- and with all records, which were measured
pub record Measurement (s names rows : List ℕ) (samples : ℕ) (clipped : Bool) (clip : List ℕ) (referenced : Bool) (reference contigs order bounds : List ℕ)
    (len count : ℕ) : Type 0 where
  pub ready : ListReady s names rows samples clipped clip referenced reference contigs order bounds
  pub records : List Record
  pub merged : all_records ready.tables ≡ accepted records
  pub len_is : len ≡ length (flat_map printed_record records)
  pub count_is : count ≡ length records

-- the list of those records
abbrev pub list_to : {s names rows : List ℕ} {samples : ℕ} {clipped : Bool} {clip : List ℕ} {referenced : Bool}
    {reference contigs order bounds : List ℕ} {len count : ℕ}
    → Measurement s names rows samples clipped clip referenced reference contigs order bounds len count → List ℕ
list_to m = printed_list m.ready.tables.loaded.input.cohort.names m.records
