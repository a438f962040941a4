-- The record of an interval as it is laid: its ALTs as text, its samples' lines, and what the steps of `coalescing` ask of it.
use Prim.Native.Nat.{◌+◌, ◌<◌, ◌^◌, ◌≤◌, min, suc, ℕ}
use borrow.Author.Tests.{le-ltb}
use lib.Dec.{eqb}
use lib.ListN.{drop, get_or, length, length-append, length-map, take}
use lib.Seq.{length-take-le, sets, take_at, take-length}
use mathlib.Core.Bool.{Bool, ◌&&◌, false, true}
use mathlib.Core.List.{List, [], ◌++◌, ◌∷◌, flat_map, map}
use mathlib.Core.Option.{none}
use mathlib.Core.Path.{◌∙◌, ◌≡◌, ap, refl, subst, sym}
use native.Mathlib.Nat.{zero-add}
use native.Mathlib.Omega.{arith}
use Rattle.coalescing.specs.Held.{HeldBlock}
use Rattle.coalescing.specs.Steps.{OtherRecord, record_stepped}
use Rattle.bio_ids.specs.declared.GenomeLoc.{GenomeLoc}
use Rattle.coalescing.specs.declared.PendingBlock.{PendingBlock}
use Rattle.coalescing.specs.declared.Stepped.{Stepped}
use Rattle.definitions.specs.Alleles.{capital, is_block, only_non_ref, written_alleles}
use Rattle.definitions.specs.Bytes.{comma, fields_of, text}
use Rattle.definitions.specs.Lists.{numbers_from, only_if}
use Rattle.definitions.specs.Numbers.{decimal, written_or_missing}
use Rattle.definitions.specs.Printed.{printed_sample_data}
use Rattle.kv_write.proofs.Laying.{laid_length, sets_front}
use Rattle.kv_write.specs.Laid.{Laid}
use Rattle.laws.proofs.Alleles.{block_is}
use Rattle.laws.proofs.Every.{Every, every_map, every_member, every_of_map_back}
use Rattle.laws.proofs.Members.{length_numbers, numbers_member}
use Rattle.laws.proofs.MergedAltsSound.{merged_alleles_sound}
use Rattle.laws.proofs.SoundInput.{SoundSite}
use Rattle.laws.proofs.SoundRecords.{SoundAlleles}
use Rattle.laws.proofs.SoundValues.{Name}
use Rattle.list_header.specs.Measured.{limit, most_count}
use Rattle.merged_records.proofs.Records.{found_are_sound, record_alleles, record_alts, record_data, ref_for, sites_are_sound}
use Rattle.merged_records.specs.Found.{covering}
use Rattle.merged_records.specs.Loaded.{OnContig}
use Rattle.record_laws.proofs.Coalescing.{block_record_lem, end_not_block}
use Rattle.record_laws.proofs.DerivedData.{all_data_derived}
use Rattle.record_laws.proofs.Lengths.{all_block_data_few, alleles_few, decimal_few}
use Rattle.record_laws.proofs.SamePrinted.{Derived}
use Rattle.record_laws.specs.Pending.{block_record}
use Rattle.record_lines.proofs.Alleles.{alleles_in_written, written_count}
use Rattle.record_lines.proofs.Head.{head_length, printed_record_lem}
use Rattle.record_lines.specs.Head.{end_from}
use Rattle.record_lines.specs.Records.{RecordFits, record_bytes}
use Rattle.record_lines.specs.Samples.{SamplesPrintable, printed_own, printed_samples}
use Rattle.sample_alleles.specs.Readings.{alleles_in}
use Rattle.tables.specs.Tables.{site_at}
use Rattle.contig_walk.proofs.OwnRows.{own_data, own_enough, own_sound}
use Rattle.contig_walk.specs.Laying.{LayReady, laid_record}
use Rattle.std.specs.Prelude as std

and_true : (b : Bool) → b && true ≡ b
and_true true = refl
and_true false = refl

-- a list of one letter is that letter
only_letter : (l : List ℕ) → length l ≡ 1 → l ≡ get_or l 0 0 ∷ []
only_letter [] e = absurd (omega arith)
only_letter (a ∷ []) e = refl
only_letter (a ∷ b ∷ l) e = absurd (omega arith)

-- where the list goes on and how many records it has, behind a record
pub record_counted : (at count : ℕ) (lines : List ℕ) {end at' count' : ℕ} → end ≡ at + length lines → at' ≡ min limit end → count' ≡ min most_count (count + 1)
    → ◌≡◌ {A = Stepped} (record { pending = std.None; at = at'; count = count' }) (record_stepped at lines count)
unfolding record_stepped
record_counted at count lines e a c = rw (a, e, c)

-- a contig is named as a site's contig is
pub contig_named : {s rows : List ℕ} {samples : ℕ} {referenced : Bool} {reference contig : List ℕ} → OnContig s rows samples referenced reference contig → Name contig
unfolding site_at
contig_named {s} {rows} on =
    let sites = on.loaded.input.cohort.sites in
    let all : Every (λ i. SoundSite (site_at s rows i)) (numbers_from 0 (length sites)) =
    every_of_map_back (site_at s rows) (numbers_from 0 (length sites)) (subst (Every SoundSite) on.loaded.table.read on.loaded.sound.cohort.sites) in
    rw on.name (every_member {a = on.first} (numbers_member 0 (length sites) (omega arith) (omega (arith, on.known))) all).contig

module _ {s rows : List ℕ} {samples : ℕ} {contig : List ℕ} {first last : ℕ} {allele : List ℕ} {number : ℕ} {own alts : List ℕ}
    {pending : std.Option PendingBlock} {held fresh : List ℕ} {at : ℕ}
    (r : LayReady s rows samples contig first last allele number own alts pending held fresh at) where
  -- ---- the ALTs

  text_is : written_alleles (record_alts r.on first r.to) ≡ alts
  text_is = sym r.to.text ∙ take-length alts

  sound_alleles : SoundAlleles 255 16 (record_alleles r.on first r.to)
  sound_alleles = merged_alleles_sound _ first (covering r.on first) (sites_are_sound r.on first r.to) (ref_for r.on first r.to)
      (omega (arith, r.to.number, r.to.few_alts))

  pub few_fields : length (fields_of comma alts) ≤ 15
  few_fields = rw (← text_is) (omega (arith, written_count 255 sound_alleles.alts sound_alleles.at_least_two, r.to.number, r.to.few_alts))

  alleles_are : alleles_in alts ≡ record_alts r.on first r.to
  alleles_are = rw (← text_is) (alleles_in_written 255 sound_alleles.alts sound_alleles.at_least_two)

  -- ---- the samples

  abbrev sound_sites : Every SoundSite (map (site_at s rows) r.found)
  sound_sites = found_are_sound r.on first r.to

  pub samples_are : printed_samples s rows samples own first (map capital allele) alts ≡ flat_map printed_sample_data (record_data r.on first r.to)
  unfolding printed_own
  samples_are =
      ap (flat_map printed_sample_data) (own_data s rows first (map capital allele) alts r.found sound_sites r.own_is r.on.loaded.few)
      ∙ rw (r.allele_is, alleles_are, r.to.sites)

  enough : samples ≤ length own
  enough = own_enough s rows first [] alts r.found sound_sites r.own_is r.on.loaded.few

  sound_rows : Every (λ x. x < length rows → SoundSite (site_at s rows x)) (take samples own)
  sound_rows = own_sound s rows first [] alts r.found sound_sites r.own_is r.on.loaded.few

  pub printable : (k : ℕ) → k ≤ 2 ^ 63 → SamplesPrintable s rows samples own alts k
  printable k h = record {
    enough = enough;
    sound = sound_rows;
    few = few_fields;
    fits = omega (arith, r.on.loaded.few);
  }

  -- a block, by the number of ALTs and the length of REF
  pub by_numbers : is_block (laid_record r).alleles ≡ (eqb number 1 && eqb (length allele) 1)
  unfolding is_block only_non_ref
  by_numbers = rw (← length-map allele capital, r.allele_is, sound_alleles.non_ref, ← r.to.number, and_true (eqb number 1))

  -- ---- a block

  module _ (block : is_block (laid_record r).alleles ≡ true) where
    one_alt : length (record_alts r.on first r.to) ≡ 1
    one_alt = ap length (block_is (laid_record r).alleles block).0

    pub one_letter : length allele ≡ 1
    one_letter = sym (length-map allele capital) ∙ ap length r.allele_is ∙ (block_is (laid_record r).alleles block).1

    pub derived : Every (Derived 2) (record_data r.on first r.to)
    derived = subst (λ (k : ℕ). Every (Derived (suc k)) (record_data r.on first r.to)) one_alt
        (all_data_derived _ _ first (covering r.on first) samples (sites_are_sound r.on first r.to))

    pub samples_count : length (record_data r.on first r.to) ≡ samples
    samples_count = length-map (numbers_from 0 samples) _ ∙ length_numbers 0 samples

    pub lines_few : length (flat_map printed_sample_data (record_data r.on first r.to)) ≤ 8192
    lines_few = omega (arith, all_block_data_few (every_map (λ v d. d.sound) derived), samples_count, r.on.loaded.few)

    -- they fit a list of 8,192 bytes, and stand at its front
    pub record FreshLines (after : List ℕ) (len : ℕ) : Type 0 where
      pub within : len ≤ length after
      pub exact : len ≡ length (take len after)
      pub lines : take len after ≡ flat_map printed_sample_data (record_data r.on first r.to)

    pub fresh_lines : (after : List ℕ) (len : ℕ)
        → Laid fresh 0 (printed_samples s rows samples own first (map capital allele) alts) after len → FreshLines after len
    fresh_lines after len l =
        let few = lines_few in
        let room = r.fresh_room in
        let count : len ≡ length (flat_map printed_sample_data (record_data r.on first r.to)) = l.next ∙ zero-add _ ∙ ap length samples_are in
        let same : length after ≡ length fresh = laid_length l in
        let within : len ≤ length after = omega arith in
        let front : after ≡ flat_map printed_sample_data (record_data r.on first r.to) ++ drop (length (flat_map printed_sample_data (record_data r.on first r.to))) fresh =
        l.laid ∙ ap (sets fresh 0) samples_are ∙ sets_front fresh (flat_map printed_sample_data (record_data r.on first r.to)) (omega arith) in
        record {
          within = within;
          exact = sym (length-take-le len after within);
          lines = rw front (take_at _ _ len (sym count));
        }

  -- ---- another record

  module _ (other : is_block (laid_record r).alleles ≡ false) where
    pub other_record : OtherRecord (record_bytes s rows samples contig first (map capital allele) own alts) (laid_record r)
    unfolding only_if record_bytes
    other_record = record {
      not_block = other;
      printed =
          printed_record_lem (laid_record r) first refl refl (end_not_block (record_alleles r.on first r.to) (record { first = first; last = last }) other ∙ no_end) (sym r.allele_is) text_is
          ∙ rw (← samples_are);
    }
      where
        no_end : none ≡ end_from first first
        no_end = rw (le-ltb first first (omega arith))

  pub record_fits : (k : ℕ) → k ≤ 2 ^ 63 → RecordFits s rows samples contig first (map capital allele) own alts k
  unfolding only_if written_or_missing text
  record_fits k h = record {
    in_range_lem = omega (arith, r.ordered, r.in_range_lem);
    enough = enough;
    sound = sound_rows;
    few = few_fields;
    fits = simp (length-append, head_length) (omega (
      arith,
      named,
      short_ref,
      short_alts,
      decimal_few first (omega (arith, r.ordered, r.in_range_lem)),
      end_short,
      r.on.loaded.few,
    ));
  }
    where
      named : length contig ≤ 32
      named = (contig_named r.on).not_too_long

      short_ref : length (map capital allele) ≤ 128
      short_ref = rw r.allele_is (ref_for r.on first r.to).letters.not_too_long

      short_alts : length alts ≤ 4096
      short_alts = rw (← text_is) (omega (arith, alleles_few sound_alleles.alts, r.to.number, r.to.few_alts))

      end_short : length (written_or_missing decimal (end_from first first)) ≤ 10
      end_short = rw (le-ltb first first (omega arith)) (omega arith)

-- a block as it is held back
pub new_block : {s rows : List ℕ} {samples : ℕ} {contig : List ℕ} (loc : GenomeLoc) {allele : List ℕ} {number : ℕ} {own alts : List ℕ}
    {pending : std.Option PendingBlock} {held fresh : List ℕ} {at : ℕ}
    (r : LayReady s rows samples contig loc.start.0 loc.end.0 allele number own alts pending held fresh at)
    → is_block (laid_record r).alleles ≡ true → (letter : ℕ) → letter ≡ capital (get_or allele 0 0)
    → (lines : List ℕ) → lines ≡ flat_map printed_sample_data (record_data r.on loc.start.0 r.to)
    → HeldBlock samples contig lines (record { loc = loc; letter = letter; len = length lines }) (laid_record r)
new_block {contig = contig} loc {allele = allele} r block letter b lines e =
    let values = record_data r.on loc.start.0 r.to in
    record {
      values = values;
      record_is =
          block_record_lem contig (record { first = loc.start.0; last = loc.end.0 }) (record_alleles r.on loc.start.0 r.to) values block
          ∙ ap (λ (ref : List ℕ). block_record contig loc.start.0 loc.end.0 ref values)
          (sym r.allele_is ∙ ap (map capital) (only_letter allele (one_letter r block)) ∙ ap (λ (c : ℕ). c ∷ []) (sym b));
      derived = derived r block;
      all_samples = samples_count r block;
      printed = take-length lines ∙ e;
      ordered = r.ordered;
      in_range_lem = r.in_range_lem;
    }
