-- The turns of the walk: an interval without a record, one whose record is refused, and one whose record is laid.
use Prim.Native.Nat.{◌<◌, ◌≤◌, ℕ}
use borrow.Author.Tests.{lt-ltb}
use lib.ListN.{length, length-map, length-take, replicate, take}
use lib.Seq.{length-sets, length-take-le, sets, take-length}
use mathlib.Core.Bool.{Bool}
use mathlib.Core.List.{List, [], append-nil, flat_map, map}
use mathlib.Core.Option.{Option}
use mathlib.Core.Path.{◌∙◌, ◌≡◌, ap, refl, sym}
use native.Mathlib.Nat.{add-zero, sub-zero}
use native.Mathlib.Omega.{arith}
use Rattle.coalescing.specs.Held.{Holds}
use Rattle.coalescing.specs.Steps.{Progress, StepTo}
use Rattle.answers.specs.Answered.{row_of}
use Rattle.answers.specs.declared.Refusal.{Refusal}
use Rattle.coalescing.specs.declared.PendingBlock.{PendingBlock}
use Rattle.coalescing.specs.declared.Stepped.{Stepped}
use Rattle.definitions.specs.Alleles.{capital}
use Rattle.definitions.specs.Checked.{Checked, refused}
use Rattle.definitions.specs.CombinedList.{Input, interval_record}
use Rattle.definitions.specs.CoveringSites.{covering_sites}
use Rattle.definitions.specs.Records.{Record}
use Rattle.found_sites.specs.Own.{found_list, own_rows}
use Rattle.kv_text.specs.Fields.{between}
use Rattle.merged_records.proofs.Records.{owners_beside, record_is, record_ref}
use Rattle.merged_records.specs.Found.{RecordTo, covering}
use Rattle.merged_records.specs.Loaded.{OnContig, covering_numbers, covering_owners}
use Rattle.merged_ref.specs.declared.RefAt.{RefAt}
use Rattle.record_laws.proofs.Coalescing.{turn_refused}
use Rattle.record_laws.proofs.Walking.{with_interval}
use Rattle.record_laws.specs.Pending.{and_later}
use Rattle.tables.specs.Tables.{column, site_at}
use Rattle.contig_walk.specs.Laying.{LayReady, TurnReady, Turns, laid_record, own_of}
use Rattle.std.specs.Prelude as std

-- as many as were found are there
pub front_within : {n : ℕ} (l : List ℕ) → n ≡ length (take n l) → n ≤ length l
front_within {n} l e = omega (arith, length-take n l)

-- a part from the beginning on
text_front : (t alts : List ℕ) (len : ℕ) → t ≡ between alts 0 len → t ≡ take len alts
text_front t alts len e = e ∙ rw (sub-zero len)

-- ---- a turn

-- nothing changes
pub unchanged : (x : Input) (samples : ℕ) (contig : List ℕ) (first last : ℕ) (pending : std.Option PendingBlock) (held : List ℕ) (at : ℕ)
    (waiting : Option Record) (d₀ bytes : List ℕ) (records : ℕ) → Holds samples contig held pending waiting
    → (out : List ℕ) (count : ℕ) → Progress d₀ bytes records out at count
    → ((later : Checked (List Record)) → with_interval x contig (record { first = first; last = last }) later ≡ later)
    → Turns x samples contig held out first last waiting d₀ bytes records
    (std.Ok (record { pending = pending; at = at; count = count }))
unfolding Turns flat_map
unchanged x samples contig first last pending held at waiting d₀ bytes records h out count p same = record {
  laid = [];
  waits = waiting;
  holds = h;
  progress = rw (append-nil bytes, add-zero records) p;
  turned = λ done later. rw (same later, append-nil done);
}

module _ {s rows : List ℕ} {samples : ℕ} {referenced : Bool} {reference contig chosen from bounds : List ℕ}
    {first last : ℕ} {pending : std.Option PendingBlock} {held fresh found₀ owners₀ alts₀ : List ℕ} {at : ℕ}
    (ready : TurnReady s rows samples referenced reference contig chosen from bounds first last pending held fresh found₀ owners₀ alts₀ at) where
  abbrev on : OnContig s rows samples referenced reference contig
  on = ready.runs.on

  -- the samples stand beside the sites found
  module _ (found alts : List ℕ) (n : ℕ) (place : RefAt) (len number : ℕ) (to : RecordTo on first (take n found) alts n place len number) (owners : List ℕ)
      (stored : found ≡ sets found₀ 0 (covering_numbers on first)) (owned : owners ≡ sets owners₀ 0 (covering_owners on first)) where
    beside : take n owners ≡ map (column 0 rows) (take n found)
    beside = owners_beside on first to found₀ found owners₀ owners ready.room.for_record.for_sites ready.room.for_record.for_owners refl stored owned

    pub owners_front : n ≤ length owners
    owners_front = omega (arith, to.few, ready.room.for_record.for_owners, ap length owned, length-sets owners₀ 0 (covering_owners on first))

    pub owners_exact : n ≡ length (take n owners)
    owners_exact = sym (length-take-le n owners owners_front)

    pub own_asked : (length (take n owners) ≤ 64) × (length (take n found) ≡ length (take n owners))
    own_asked = (omega (arith, owners_exact, to.few, on.loaded.few), sym to.all ∙ owners_exact)

    pub own_known : {own : List ℕ} → own ≡ own_rows (found_list (take n found) (take n owners)) 0 (replicate 64 (length rows)) → own ≡ own_of rows (take n found)
    own_known e = e ∙ ap (λ (o : List ℕ). own_rows (found_list (take n found) o) 0 (replicate 64 (length rows))) beside

  -- the covering sites are some, so the interval has a record
  has_record : 0 < length (covering on first) → (later : Checked (List Record))
      → with_interval on.loaded.input contig (record { first = first; last = last }) later
      ≡ and_later (interval_record on.loaded.input contig (record { first = first; last = last })) later
  unfolding with_interval
  has_record some_site later = rw (ready.inside, lt-ltb 0 (length (covering_sites on.loaded.input.cohort contig first)) some_site)

  module _ (found alts : List ℕ) (n : ℕ) (place : RefAt) (len number : ℕ) (to : RecordTo on first (take n found) alts n place len number) where
    pub some_covering : 0 < length (covering on first)
    some_covering = rw (← to.sites) (rw (length-map (take n found) (site_at s rows)) (omega (arith, to.all, to.some_site)))

    -- the ALTs by themselves
    pub exact : (text : List ℕ) → text ≡ between alts 0 len → RecordTo on first (take n found) text n place (length text) number
    exact text e = record {
      sites = to.sites;
      known = to.known;
      all = to.all;
      some_site = to.some_site;
      few = to.few;
      ref = to.ref;
      text = take-length text ∙ text_front text alts len e ∙ to.text;
      number = to.number;
      few_alts = to.few_alts;
    }

    unfoldable pub lay_ready : (text : List ℕ) → text ≡ between alts 0 len → (own : List ℕ) → own ≡ own_of rows (take n found)
        → (allele : List ℕ) → map capital allele ≡ record_ref on first to
        → LayReady s rows samples contig first last allele number own text pending held fresh at
    lay_ready text e own o allele a =
        let i = ready.sound some_covering in
        record {
          referenced = referenced;
          reference = reference;
          on = on;
          found = take n found;
          own_is = o;
          sites = n;
          place = place;
          to = exact text e;
          allele_is = a;
          ordered = i.ordered;
          in_range_lem = i.in_range_lem;
          fits = ready.fits;
          room = ready.room.for_held;
          fresh_room = ready.room.for_fresh;
        }

module _ {s rows : List ℕ} {samples : ℕ} {referenced : Bool} {reference contig chosen from bounds : List ℕ}
    {first last : ℕ} {pending : std.Option PendingBlock} {held fresh found₀ owners₀ alts₀ : List ℕ} {at : ℕ}
    (ready : TurnReady s rows samples referenced reference contig chosen from bounds first last pending held fresh found₀ owners₀ alts₀ at)
    (waiting : Option Record) (d₀ bytes : List ℕ) (records : ℕ)
    (h : Holds samples contig held pending waiting) where
  abbrev on' : OnContig s rows samples referenced reference contig
  on' = ready.runs.on

  pub turn_bare : covering on' first ≡ [] → (out : List ℕ) (count : ℕ) → Progress d₀ bytes records out at count
      → Turns on'.loaded.input samples contig held out first last waiting d₀ bytes records
      (std.Ok (record { pending = pending; at = at; count = count }))
  unfolding with_interval
  turn_bare e out count p =
      unchanged on'.loaded.input samples contig first last pending held at waiting d₀ bytes records h out count p
      (λ later. rw (ready.inside, e))

  -- a position without sites has no record to refuse
  pub turn_none : (refusal : Refusal) → 0 < length (covering on' first)
      → ((last : ℕ) → interval_record on'.loaded.input contig (record { first = first; last = last }) ≡ refused (row_of refusal))
      → (out : List ℕ) → out ≡ sets d₀ 0 bytes
      → Turns on'.loaded.input samples contig held out first last waiting d₀ bytes records (std.Err refusal)
  unfolding Turns
  turn_none refusal some_site e out same = record {
    unlaid = same;
    refuses = λ done later. rw (has_record ready some_site later) (turn_refused done _ later waiting (row_of refusal) (e last));
  }

  module _ (found alts : List ℕ) (n : ℕ) (place : RefAt) (len number : ℕ) (to : RecordTo on' first (take n found) alts n place len number) where
    pub turn_laid : (text : List ℕ) (e : text ≡ between alts 0 len) (own : List ℕ) (o : own ≡ own_of rows (take n found))
        (allele : List ℕ) (a : map capital allele ≡ record_ref on' first to) (held' out : List ℕ) (step : Stepped)
        → StepTo samples contig held' out waiting (laid_record (lay_ready ready found alts n place len number to text e own o allele a)) d₀ bytes records step
        → Turns on'.loaded.input samples contig held' out first last waiting d₀ bytes records (std.Ok step)
    unfolding Turns lay_ready
    turn_laid text e own o allele a held' out step t = record {
      laid = t.laid;
      waits = t.waits;
      holds = t.holds;
      progress = t.progress;
      turned = λ done later. rw (has_record ready (some_covering ready found alts n place len number to) later) (t.turned done _ later (record_is on' first (exact ready found alts n place len number to text e) last));
    }
