-- The two passes: the list is measured, and if there is room it is written.
use Prim.Native.Nat.{◌*◌, ◌+◌, ◌<◌, ◌≤◌, ℕ}
use lib.ListN.{drop, length, length-append, length-take, take}
use lib.Seq.{sets}
use mathlib.Core.Bool.{Bool}
use mathlib.Core.List.{List, [], ◌++◌, ◌∷◌, flat_map}
use mathlib.Core.Path.{◌∙◌, ◌≡◌, ap, refl, subst, sym}
use native.Mathlib.Omega.{arith}
use Rattle.answers.proofs.Answers.{answered_refused, answered_written, is_within, not_within}
use Rattle.answers.specs.Answered.{Answered, row_of}
use Rattle.answers.specs.declared.Refusal.{Refusal}
use Rattle.answers.specs.declared.Refusal.TheVariants as refusal
use Rattle.definitions.specs.Checked.{Checked, accepted, refused, within}
use Rattle.definitions.specs.CombinedList.{combined_records, list_of}
use Rattle.definitions.specs.Numbers.{max_number}
use Rattle.definitions.specs.Printed.{printed_header, printed_list, printed_record}
use Rattle.definitions.specs.Records.{Record}
use Rattle.kv_write.proofs.Laying.{sets_nothing}
use Rattle.kv_write.specs.Laid.{Laid}
use Rattle.laws.proofs.Checked.{accepted_same, not_refused, then, then_refused}
use Rattle.laws.proofs.CombinedRecordsSound.{records_sound}
use Rattle.laws.proofs.Every.{every_of_each, flat_map_few}
use Rattle.laws.proofs.RecordCount.{records_few}
use Rattle.laws.proofs.SoundRecords.{RecordAfter}
use Rattle.list_header.proofs.HeaderLines.{header_fits}
use Rattle.list_header.proofs.TwoPasses.{measured_none, sets_whole}
use Rattle.list_header.specs.Measured.{limit}
use Rattle.merged_records.specs.Loaded.{Loaded}
use Rattle.record_laws.proofs.Lengths.{most_header, most_record, record_few}
use Rattle.tables.specs.Tables.{names_in}
use Rattle.combined_list.specs.Contigs.{AllReady, all_records}
use Rattle.combined_list.specs.WrittenList.{ListReady, Measurement, list_to, list_within}
use Rattle.contig_walk.specs.Walk.{RecordsLaid, RecordsWalked}
use Rattle.contig_walk.specs.declared.ListEnd.{ListEnd}
use Rattle.std.specs.Prelude.{Result, Ok, Err}

-- nothing is written on an empty part
pub nothing_laid : {bytes part : List ℕ} {at r : ℕ} → Laid [] at bytes part r → part ≡ []
nothing_laid {bytes} {part} {at} p = p.laid ∙ sets_nothing at bytes

-- an empty part stays empty
pub nothing_left : (part out : List ℕ) → length part ≡ 0 → part ++ out ≡ out
nothing_left [] out e = refl
nothing_left (x ∷ part) out e = absurd (omega arith)

-- ---- the records of an input are few, and so are their bytes

module _ {s rows : List ℕ} {samples : ℕ} {referenced : Bool} {reference : List ℕ} (l : Loaded s rows samples referenced reference) where
  module _ (records : List Record) (e : combined_records l.input 1 ≡ accepted records) where
    pub records_counted : length records ≤ 2147483647
    unfolding max_number
    records_counted = records_few l.input l.sound 1 records e

    pub bytes_counted : length (flat_map printed_record records) ≤ most_record * 2147483647
    bytes_counted =
        let sound = records_sound l.input l.sound 1 records e in
        let few = flat_map_few printed_record most_record (every_of_each (λ before r (h : RecordAfter (length l.input.cohort.names) before r). record_few _ r l.sound.cohort.names.few h.sound) sound) in
        omega (arith, few, records_counted)

-- ---- the first pass

module _ {s names rows : List ℕ} {samples : ℕ} {clipped : Bool} {clip : List ℕ} {referenced : Bool} {reference contigs order bounds : List ℕ}
    (ready : ListReady s names rows samples clipped clip referenced reference contigs order bounds) where
  unfoldable pub measuring : AllReady s rows samples clipped clip referenced reference contigs order bounds [] 0
  measuring = record {
    tables = ready.tables;
    names = ready.in_order_lem;
    firsts = ready.firsts;
    d₀ = [];
    bytes = [];
    progress = record { measured = measured_none (omega arith); counted = record { count_is = omega arith } };
  }

  -- what walking over the contigs says
  abbrev pub WalkSays : List ℕ → ℕ → List ℕ → Result ListEnd Refusal → Type 0
  WalkSays out at out' w = (r : AllReady s rows samples clipped clip referenced reference contigs order bounds out at)
      → RecordsWalked (all_records r.tables) r.d₀ r.bytes 0 out' w

  module _ (part : List ℕ) where
    pub list_refused : (r : Refusal) (room : ℕ) → WalkSays [] 0 part (Err r) → list_within ready.tables.loaded 1 room ≡ refused (row_of r)
    unfolding RecordsWalked measuring list_of
    list_refused r room says = then_refused _ _ (then_refused _ _ (says measuring).merged)

    pub measurement : (end : ListEnd) → WalkSays [] 0 part (Ok end)
        → Measurement s names rows samples clipped clip referenced reference contigs order bounds end.at end.count
    unfolding RecordsWalked measuring
    measurement end says =
        let laid : RecordsLaid (all_records ready.tables) [] [] 0 part end.at end.count = says measuring in
        let few = records_counted ready.tables.loaded laid.list laid.merged in
        let short = bytes_counted ready.tables.loaded laid.list laid.merged in
        record {
          ready = ready;
          records = laid.list;
          merged = laid.merged;
          len_is = omega (arith, laid.progress.measured.at_is);
          count_is = omega (arith, laid.progress.counted.count_is);
        }

    pub list_answered : (end : ListEnd) (out out₁ out₂ : List ℕ) (r : Result ℕ Refusal) → WalkSays [] 0 part (Ok end) → out₁ ≡ out
        → ((m : Measurement s names rows samples clipped clip referenced reference contigs order bounds end.at end.count)
        → Answered (within (length out₁) (list_to m)) out₁ out₂ r)
        → Answered (list_within ready.tables.loaded 1 (length out)) out out₂ r
    unfolding measurement list_of
    list_answered end out out₁ out₂ r says kept writes =
        let m = measurement end says in
        let list : list_of ready.tables.loaded.input 1 ≡ accepted (list_to m) = then _ _ m.merged refl in
        let answer : Answered (within (length out) (list_to m)) out out₂ r = rw kept at (writes m) in
        subst (λ (c : Checked (List ℕ)). Answered c out out₂ r) (sym (then _ (within (length out)) list refl)) answer

-- ---- the second pass

module _ {s names rows : List ℕ} {samples : ℕ} {clipped : Bool} {clip : List ℕ} {referenced : Bool} {reference contigs order bounds : List ℕ}
    {len count : ℕ} (m : Measurement s names rows samples clipped clip referenced reference contigs order bounds len count) where
  pub count_low : count ≤ 2147483647
  count_low = omega (arith, m.count_is, records_counted m.ready.tables.loaded m.records m.merged)

  pub len_low : len ≤ most_record * 2147483647
  len_low = omega (arith, m.len_is, bytes_counted m.ready.tables.loaded m.records m.merged)

  abbrev pub header_of : List ℕ
  header_of = printed_header (names_in s names samples) count

  pub header_low : length header_of ≤ most_header + 10
  header_low = header_fits s names samples count m.ready.header (omega (arith, count_low))

  pub list_parts : list_to m ≡ header_of ++ flat_map printed_record m.records
  unfolding printed_list
  list_parts = rw (m.ready.names_are, m.count_is)

  module _ {part : List ℕ} {r : ℕ} (header : Laid [] 0 header_of part r) where
    pub list_length : r + len ≡ length (list_to m)
    list_length = rw list_parts (omega (arith, header.next, m.len_is, length-append header_of (flat_map printed_record m.records)))

    pub end_low : r + len ≤ limit
    end_low = omega (arith, header.next, header_low, len_low)

    pub part_low : (out : List ℕ) → length (take (r + len) out) ≤ limit
    part_low out = omega (arith, length-take (r + len) out, end_low)

    -- there is no room
    pub full_answered : (out : List ℕ) → length (part ++ out) < r + len → Answered (within (length out) (list_to m)) out (part ++ out) (Err refusal.Output)
    full_answered out h =
        let empty : part ≡ [] = nothing_laid header in
        let few : length out < length (list_to m) = omega (arith, ap length (ap (λ (p : List ℕ). p ++ out) empty), list_length) in
        answered_refused (not_within (list_to m) few) (ap (λ (p : List ℕ). p ++ out) empty)

    -- there is room, and the list is written over the part that it takes
    pub fitting_answered : {written : List ℕ} (out : List ℕ) → r + len ≤ length (part ++ out)
        → ((m : Measurement s names rows samples clipped clip referenced reference contigs order bounds len count)
        → written ≡ sets (take (r + len) (part ++ out)) 0 (list_to m))
        → Answered (within (length out) (list_to m)) out (written ++ drop (r + len) (part ++ out)) (Ok (r + len))
    fitting_answered {written} out h writes =
        let empty : part ++ out ≡ out = ap (λ (p : List ℕ). p ++ out) (nothing_laid header) in
        let exact : length (take (r + len) (part ++ out)) ≡ length (list_to m) = omega (arith, length-take (r + len) (part ++ out), list_length) in
        let all : written ≡ list_to m = writes m ∙ sets_whole (take (r + len) (part ++ out)) (list_to m) exact in
        let room : length (list_to m) ≤ length out = omega (arith, ap length empty, list_length) in
        answered_written (is_within (list_to m) room) list_length (rw (all, empty, list_length))

  module _ (out : List ℕ) (small : length out ≤ limit) {out₁ : List ℕ} {at : ℕ} (header : Laid out 0 header_of out₁ at) where
    pub writing : AllReady s rows samples clipped clip referenced reference contigs order bounds out₁ at
    writing = record {
      tables = m.ready.tables;
      names = m.ready.in_order_lem;
      firsts = m.ready.firsts;
      d₀ = out;
      bytes = header_of;
      progress = record {
        measured = record { at_is = omega (arith, header.next, header_low); laid = header.laid; small = small };
        counted = record { count_is = omega arith };
      };
    }

    pub list_written : {out₂ : List ℕ} (w : Result ListEnd Refusal) → WalkSays m.ready out₁ at out₂ w → out₂ ≡ sets out 0 (list_to m)
    unfolding RecordsWalked writing
    list_written {out₂} w says = go w (says writing)
      where
        go : (w : Result ListEnd Refusal) → RecordsWalked (all_records m.ready.tables) out header_of 0 out₂ w → out₂ ≡ sets out 0 (list_to m)
        go (Err r) e = not_refused (sym e.merged ∙ m.merged)
        go (Ok end) laid =
            let same : laid.list ≡ m.records = accepted_same (sym laid.merged ∙ m.merged) in
            let bytes : header_of ++ flat_map printed_record laid.list ≡ list_to m = rw same (sym list_parts) in
            laid.progress.measured.laid ∙ ap (sets out 0) bytes
