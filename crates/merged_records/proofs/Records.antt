-- What is found at a position, as the definitions have it: covering sites, REF, ALTs, and the record or the row that refuses it.
use Prim.Native.Nat.{◌<◌, ◌≤◌, suc, ℕ}
use borrow.Author.Tests.{le-leb, lt-leb}
use lib.ListN.{drop, length, length-map, take}
use lib.Seq.{length-take-le, sets, sets-eq, take_at}
use mathlib.Core.Bool.{Bool}
use mathlib.Core.List.{List, [], ◌∷◌, map}
use mathlib.Core.Path.{◌∙◌, ◌≡◌, ap, refl, subst, sym}
use native.Mathlib.Nat.{zero-add}
use native.Mathlib.Omega.{arith}
use Rattle.std.specs.Prelude.{Err, None, Ok, Option, Result, Some}
use Rattle.answers.specs.declared.Refusal.{Refusal}
use Rattle.covering_sites.proofs.CoveringFound.{covering_found, found_few, found_owners, member_found}
use Rattle.covering_sites.specs.Covering.{Found, covering_samples}
use Rattle.definitions.specs.Alleles.{Allele, RefAlts, capital}
use Rattle.definitions.specs.Checked.{Checked, accepted, refused}
use Rattle.definitions.specs.CombinedList.{interval_record}
use Rattle.definitions.specs.CoveringSites.{covering_sites}
use Rattle.definitions.specs.Genotypes.{SampleData, data_of_sample}
use Rattle.definitions.specs.Limits.{max_site_letters, max_sites}
use Rattle.definitions.specs.Lists.{numbers_from, only_if}
use Rattle.definitions.specs.MergedAlleles.{merged_alts}
use Rattle.definitions.specs.MergedRef.{merged_ref}
use Rattle.definitions.specs.Records.{Record, end_of, record_of}
use Rattle.laws.proofs.Checked.{not_required, required, then, then_refused}
use Rattle.laws.proofs.Every.{Every, every_of}
use Rattle.laws.proofs.MergedRefSound.{RefFor, covering_sound, merged_ref_sound}
use Rattle.laws.proofs.SoundInput.{SoundSite}
use Rattle.laws.proofs.SoundValues.{Letters}
use Rattle.merged_alleles.proofs.Sound.{found_sound}
use Rattle.merged_alleles.specs.SoundSites.{SoundSites}
use Rattle.merged_ref.proofs.Refs.{by_segments}
use Rattle.merged_ref.specs.Answers.{ref_bytes, reference_segments}
use Rattle.merged_ref.specs.declared.RefAt.{RefAt}
use Rattle.tables.specs.Tables.{column, site_at}
use Rattle.merged_records.specs.Found.{AltsFound, Over, RecordFound, RecordTo, covering, some_record}
use Rattle.merged_records.specs.Loaded.{OnContig, covering_numbers, covering_owners, runs}
use Rattle.merged_records.specs.declared.FoundRecord.{FoundRecord}

-- what is stored from a list's beginning on stands at its front
front_of : (d l : List ℕ) → length l ≤ length d → take (length l) (sets d 0 l) ≡ l
front_of d l h = ap (take (length l)) (sets-eq l d 0 (omega arith) ∙ rw (zero-add (length l))) ∙ take_at l (drop (length l) d) (length l) refl

module _ {s rows : List ℕ} {samples : ℕ} {referenced : Bool} {reference contig : List ℕ}
    (on : OnContig s rows samples referenced reference contig) (position : ℕ) where
  abbrev numbers : List ℕ
  numbers = covering_numbers on position

  few_sites : length on.loaded.input.cohort.sites ≤ max_sites
  few_sites = on.loaded.sound.cohort.few_sites

  pub few_numbers : length numbers ≤ samples
  few_numbers = found_few rows position samples (runs on)

  pub numbers_cover : map (site_at s rows) numbers ≡ covering on position
  numbers_cover =
      covering_found on.loaded.input.cohort on.loaded.table few_sites on.loaded.names on.known on.own position
      ∙ ap (λ (name : List ℕ). covering_sites on.loaded.input.cohort name position) (sym on.name)

  pub numbers_known : Every (λ i. i < length on.loaded.input.cohort.sites) numbers
  numbers_known = every_of numbers λ i m.
      (member_found rows few_sites on.first position samples m).2.known

  -- they stand at the front of the list that was filled
  pub front : (found : List ℕ) {after owners₀ all owners : List ℕ} {n : ℕ} → samples ≤ length found
      → Found found numbers after owners₀ all owners n → take n after ≡ numbers
  front found room f = rw (f.count, f.stored) (front_of found numbers (omega (arith, few_numbers)))

  -- their samples, by the runs
  pub owners_are : covering_samples rows position samples (runs on) ≡ covering_owners on position
  owners_are = found_owners rows few_sites on.first position samples

  -- ---- REF

  -- as spelled; it is the capitals of these bytes
  module _ (ref : List ℕ)
      (merged : merged_ref on.loaded.input.reference contig position (covering on position) ≡ accepted (map capital ref)) where
    ref_letters : Letters max_site_letters (map capital ref)
    ref_letters = (merged_ref_sound on.loaded.input.reference contig position (covering on position) (map capital ref)
        (covering_sound on.loaded.input.cohort contig position on.loaded.sound.cohort.sites)
        on.loaded.sound.reference merged).letters

    pub sites_sound : SoundSites s rows numbers ref
    sites_sound = found_sound s rows on.loaded.table on.loaded.sound.cohort.sites numbers_known ref_letters

  -- ---- the record

  module _ (last : ℕ) where
    abbrev here_record : Checked Record
    here_record = interval_record on.loaded.input contig (record { first = position; last = last })

    pub ref_refused : (row : ℕ)
        → merged_ref on.loaded.input.reference contig position (covering on position) ≡ refused row
        → here_record ≡ refused row
    unfolding interval_record record_of
    ref_refused row e = then_refused _ _ e

    pub alts_refused : (ref : List ℕ)
        → merged_ref on.loaded.input.reference contig position (covering on position) ≡ accepted ref
        → 15 < length (merged_alts ref position (covering on position)) → here_record ≡ refused 13
    unfolding interval_record record_of
    alts_refused ref e h = then _ _ e (not_required _ _ _ (lt-leb (suc (length (merged_alts ref position (covering on position)))) 16 (omega arith)))

  -- ---- the answers of merge_reference_confidence

  pub covering_some : (sites : List ℕ) → sites ≡ numbers → 0 < length sites → 0 < length (covering on position)
  covering_some sites e h = rw (← numbers_cover, ← e) (rw (length-map sites (site_at s rows)) h)

  pub none_covering : (n : ℕ) → n ≡ 0 → n ≡ length numbers → covering on position ≡ []
  none_covering n z e = sym numbers_cover ∙ go numbers (sym e ∙ z)
    where
      go : (l : List ℕ) → length l ≡ 0 → map (site_at s rows) l ≡ []
      go [] h = refl
      go (x ∷ l) h = absurd (omega arith)

  module _ (sites : List ℕ) (here : sites ≡ numbers) where
    -- REF by the numbers of the found sites is REF of the covering sites
    pub as_merged : {c : Checked (List ℕ)}
        → c ≡ merged_ref (only_if referenced (reference_segments reference rows)) contig position
        (map (site_at s rows) sites)
        → merged_ref on.loaded.input.reference contig position (covering on position) ≡ c
    as_merged h =
        let l = on.loaded in
        sym (h ∙ by_segments reference rows referenced l.segments l.segments_from l.segments_indexed contig position _
        ∙ rw (here, numbers_cover, l.reference_is))

    module _ (at : RefAt)
        (merged : merged_ref on.loaded.input.reference contig position (covering on position)
        ≡ accepted (map capital (ref_bytes s reference at))) where
      pub found_sites_sound : SoundSites s rows sites (ref_bytes s reference at)
      found_sites_sound = rw here (sites_sound (ref_bytes s reference at) merged)

      pub record_found : 0 < length sites → (alts : List ℕ) (r : Result FoundRecord Refusal) → AltsFound s rows reference position at sites alts r
          → RecordFound on position (λ _. sites) alts (some_record r)
      unfolding AltsFound RecordFound
      record_found some_site alts (Err r) h =
          (covering_some sites here some_site, λ last. rw h.0 (alts_refused last (map capital (ref_bytes s reference at)) merged (rw (← numbers_cover, ← here) h.1)))
      record_found some_site alts (Ok r) h =
          let cover : map (site_at s rows) sites ≡ covering on position = ap (map (site_at s rows)) here ∙ numbers_cover in
          rw h.same_ref (record {
            sites = cover;
            known = rw here numbers_known;
            all = h.number;
            some_site = omega (arith, h.number);
            few = omega (arith, few_numbers, ap length here, h.number);
            ref = merged;
            text = rw (← cover) h.written.text;
            number = rw (← cover) h.written.count;
            few_alts = h.written.few;
          })

  -- the sites in the whole list
  pub at_front : (after : List ℕ) (m : ℕ) → m ≡ length (take m after) → (alts : List ℕ) (r : Result (Option FoundRecord) Refusal)
      → RecordFound on position (λ _. take m after) alts r → RecordFound on position (λ k. take k after) alts r
  unfolding RecordFound
  at_front after m e alts (Ok None) h = h
  at_front after m e alts (Ok (Some r)) h =
      let same : r.sites ≡ m = h.all ∙ sym e in
      subst (λ (k : ℕ). RecordTo on position (take k after) alts r.sites r.reference r.alts.len r.alts.count) (sym same) h
  at_front after m e alts (Err r) h = h

-- ---- the numbers at the front of the list that was filled

module _ {s rows : List ℕ} {samples : ℕ} {referenced : Bool} {reference contig : List ℕ}
    (on : OnContig s rows samples referenced reference contig) (position : ℕ) (found after : List ℕ) (n : ℕ) (room : samples ≤ length found)
    {owners₀ all owners : List ℕ} (f : Found found (covering_numbers on position) after owners₀ all owners n) where
  pub fits_in : length after ≡ length found → n ≤ length after
  fits_in same = omega (arith, f.count, few_numbers on position)

  pub exactly : length after ≡ length found → n ≡ length (take n after)
  exactly same = sym (length-take-le n after (fits_in same))

  unfoldable pub over_them : (n ≡ 0 → ⊥) → Over s rows samples referenced reference contig position (take n after)
  over_them not_None = record {
    on = on;
    numbers = front on position found room f;
    some_site = rw (front on position found room f) (omega (arith, f.count, not_None));
  }

-- ---- the record of an interval

module _ {s rows : List ℕ} {samples : ℕ} {referenced : Bool} {reference contig : List ℕ}
    (on : OnContig s rows samples referenced reference contig) (position : ℕ) {found alts : List ℕ} {n : ℕ} {at : RefAt} {len count : ℕ}
    (to : RecordTo on position found alts n at len count) where
  -- its sites are those that cover the position, and so many samples stand beside them
  count_is : n ≡ length (covering_numbers on position)
  count_is =
      to.all ∙ sym (length-map found (site_at s rows)) ∙ ap length (to.sites ∙ sym (numbers_cover on position))
      ∙ length-map (covering_numbers on position) (site_at s rows)

  pub owners_within : (owners : List ℕ) → samples ≤ length owners → n ≤ length owners
  owners_within owners h = omega (arith, to.few)

  pub owners_beside : (found₀ found' owners₀ owners : List ℕ) → samples ≤ length found₀ → samples ≤ length owners₀ → found ≡ take n found'
      → found' ≡ sets found₀ 0 (covering_numbers on position) → owners ≡ sets owners₀ 0 (covering_owners on position)
      → take n owners ≡ map (column 0 rows) found
  owners_beside found₀ found' owners₀ owners room room' here stored owned =
      let few = few_numbers on position in
      let long : length (covering_owners on position) ≡ length (covering_numbers on position) = length-map (covering_numbers on position) (column 0 rows) in
      let same : n ≡ length (covering_owners on position) = count_is ∙ sym long in
      let at : take n found' ≡ covering_numbers on position = rw (count_is, stored) (front_of found₀ (covering_numbers on position) (omega arith)) in
      rw (here, at, same, owned) (front_of owners₀ (covering_owners on position) (omega arith))

  -- REF, as capitals
  abbrev pub record_ref : List ℕ
  record_ref = map capital (ref_bytes s reference at)

  abbrev pub record_alts : List Allele
  record_alts = merged_alts record_ref position (covering on position)

  -- what it says of the samples
  abbrev pub record_data : List SampleData
  record_data = map (data_of_sample record_ref record_alts position (covering on position)) (numbers_from 0 samples)

  abbrev pub record_alleles : RefAlts
  record_alleles = record { ref = record_ref; alts = record_alts }

  pub record_is : (last : ℕ)
      → interval_record on.loaded.input contig (record { first = position; last = last })
      ≡ accepted (record {
        contig = contig;
        pos = position;
        end = end_of record_alleles (record { first = position; last = last });
        alleles = record_alleles;
        sample_data = record_data;
      })
  unfolding interval_record record_of
  record_is last =
      let few : suc (length record_alts) ≤ 16 = omega (arith, to.few_alts, to.number) in
      then _ _ to.ref (required _ _ _ (le-leb (suc (length record_alts)) 16 few) (rw on.loaded.names))

  -- its sites and REF are sound
  pub sites_are_sound : Every SoundSite (covering on position)
  sites_are_sound = covering_sound on.loaded.input.cohort contig position on.loaded.sound.cohort.sites

  pub found_are_sound : Every SoundSite (map (site_at s rows) found)
  found_are_sound = rw to.sites sites_are_sound

  pub ref_for : RefFor position (covering on position) record_ref
  ref_for =
      merged_ref_sound on.loaded.input.reference contig position (covering on position) record_ref
      sites_are_sound on.loaded.sound.reference to.ref
