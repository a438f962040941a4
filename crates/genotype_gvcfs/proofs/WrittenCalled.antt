-- The two passes: the called list is measured, and if there is room it is written.
use Prim.Native.Nat.{◌*◌, ◌+◌, ◌<◌, ◌≤◌, ℕ}
use lib.ListN.{drop, length, length-append, length-map, length-take, take}
use lib.Seq.{sets}
use mathlib.Core.List.{List, [], ◌++◌, ◌∷◌, flat_map}
use mathlib.Core.Path.{◌∙◌, ◌≡◌, ap, refl, subst, sym}
use native.Mathlib.Omega.{arith}
use Rattle.answers.proofs.Answers.{answered_refused, answered_written, is_within, not_within}
use Rattle.answers.specs.Answered.{Answered}
use Rattle.answers.specs.Answered.{row_of}
use Rattle.answers.specs.declared.Refusal.{Refusal}
use Rattle.answers.specs.declared.Refusal.TheVariants as refusal
use Rattle.std.specs.Prelude.{Err, Ok, Result}
use Rattle.called_lines.proofs.SoundCalled.{called_few}
use Rattle.definitions.specs.CalledList.{called_record, called_records, is_called, printed_called_list, printed_called_record}
use Rattle.definitions.specs.Checked.{Checked, accepted, refused, within}
use Rattle.definitions.specs.Limits.{max_samples}
use Rattle.definitions.specs.ListReader.{record_read}
use Rattle.definitions.specs.Lists.{filter_by}
use Rattle.definitions.specs.Printed.{printed_header}
use Rattle.definitions.specs.Records.{Record}
use Rattle.kv_write.proofs.Laying.{sets_nothing}
use Rattle.kv_write.specs.Laid.{Laid}
use Rattle.laws.proofs.Checked.{accepted_same, each_read_back, not_refused, then, then_refused}
use Rattle.laws.proofs.Every.{every_filter, every_of_each, every_of_map, flat_map_few}
use Rattle.laws.proofs.Members.{filter_few}
use Rattle.laws.proofs.SoundList.{record_sound}
use Rattle.laws.proofs.SoundRecords.{RecordAfter}
use Rattle.list_header.proofs.HeaderLines.{header_fits}
use Rattle.list_header.proofs.TwoPasses.{measured_none, sets_whole}
use Rattle.list_header.specs.HeaderNames.{HeaderNames}
use Rattle.list_header.specs.Measured.{limit}
use Rattle.record_laws.proofs.Lengths.{most_header, most_record}
use Rattle.tables.specs.Tables.{names_in, row_length}
use Rattle.genotype_gvcfs.specs.Called.{Measurement, called_from, list_to}
use Rattle.genotype_gvcfs.specs.Walk.{RecordsLaid, RecordsWalked, WalkReady, records_from}
use Rattle.genotype_gvcfs.specs.declared.ListEnd.{ListEnd}

-- nothing is written on an empty part, and it stays empty
nothing_laid : {bytes part : List ℕ} {at r : ℕ} → Laid [] at bytes part r → part ≡ []
nothing_laid {bytes} {part} {at} p = p.laid ∙ sets_nothing at bytes

pub nothing_left : (part out : List ℕ) → length part ≡ 0 → part ++ out ≡ out
nothing_left [] out e = refl
nothing_left (x ∷ part) out e = absurd (omega arith)

pub taken_exactly : (n : ℕ) (l : List ℕ) → n ≤ length l → n ≡ length (take n l)
taken_exactly n l h = omega (arith, length-take n l)

-- what walking over the records says
abbrev pub WalkSays : List ℕ → ℕ → ℕ → ℕ → List ℕ → List ℕ → ℕ → List ℕ → Result ListEnd Refusal → Type 0
WalkSays s at samples records rows out from out' w = (r : WalkReady samples rows out from)
    → RecordsWalked (records_from samples records s at) records r.d₀ r.bytes out' w

-- ---- called records are as few as those that were read, and so are their bytes

pub called_counted : (list : List Record) → length (called_records list) ≤ length list
unfolding called_records
called_counted list = omega (arith, length-map (filter_by is_called list) called_record, filter_few is_called list)

module _ (s : List ℕ) (at samples records : ℕ) (list : List Record) (few : samples ≤ max_samples) (e : records_from samples records s at ≡ accepted list) where
  pub bytes_counted : length (flat_map printed_called_record (called_records list)) ≤ most_record * length list
  unfolding called_records records_from
  bytes_counted =
      let sound = each_read_back (RecordAfter samples) (record_read samples records) [] list _ (record_sound samples records) e in
      let each = every_filter is_called list (every_of_each (λ before r (h : RecordAfter samples before r). called_few samples r few h.sound) sound) in
      omega (arith, flat_map_few printed_called_record most_record (every_of_map called_record each), called_counted list)

-- ---- the first pass

module _ {s names : List ℕ} {samples : ℕ} (header : HeaderNames s names samples) (rows : List ℕ) (room : max_samples * row_length ≤ length rows) where
  pub measuring : WalkReady samples rows [] 0
  measuring = record { few = header.few; room = room; d₀ = []; bytes = []; measured = measured_none (omega arith) }

  module _ (records at : ℕ) (part : List ℕ) where
    pub list_refused : (r : Refusal) (space : ℕ) → WalkSays s at samples records rows [] 0 part (Err r)
        → called_from s names samples records at space ≡ refused (row_of r)
    unfolding RecordsWalked measuring called_from
    list_refused r space says = then_refused _ _ (says measuring)

    pub measurement : {rows₁ : List ℕ} {end : ListEnd} → length rows₁ ≡ length rows → records ≤ 4294967295
        → WalkSays s at samples records rows [] 0 part (Ok end) → Measurement s names samples records at rows₁ end.at end.count
    unfolding RecordsWalked measuring
    measurement {end = end} same small says =
        let laid : RecordsLaid (records_from samples records s at) records [] [] part end.at end.count = says measuring in
        let short = bytes_counted s at samples records laid.list header.few laid.value in
        record {
          header = header;
          room = omega arith;
          list = laid.list;
          value = laid.value;
          len_is = omega (arith, laid.laid.measured.at_is, laid.few);
          count_is = omega (arith, laid.laid.counted.count_is, called_counted laid.list, laid.few);
          few = omega (arith, laid.few);
        }

    pub list_answered : {rows₁ : List ℕ} {end : ListEnd} (out out₁ out₂ : List ℕ) (r : Result ℕ Refusal) → length rows₁ ≡ length rows
        → records ≤ 4294967295 → WalkSays s at samples records rows [] 0 part (Ok end) → out₁ ≡ out
        → ((m : Measurement s names samples records at rows₁ end.at end.count) → Answered (within (length out₁) (list_to m)) out₁ out₂ r)
        → Answered (called_from s names samples records at (length out)) out out₂ r
    unfolding measurement called_from
    list_answered out out₁ out₂ r same small says kept writes =
        let m = measurement same small says in
        let answer : Answered (within (length out) (list_to m)) out out₂ r = rw kept at (writes m) in
        subst (λ (c : Checked (List ℕ)). Answered c out out₂ r) (sym (then _ _ m.value refl)) answer

-- ---- the second pass

module _ {s names : List ℕ} {samples records at : ℕ} {rows : List ℕ} {len count : ℕ} (m : Measurement s names samples records at rows len count) where
  pub count_low : count ≤ 4294967295
  count_low = omega (arith, m.count_is, called_counted m.list, m.few)

  len_low : len ≤ most_record * 4294967295
  len_low = omega (arith, m.len_is, bytes_counted s at samples records m.list m.header.few m.value, m.few)

  abbrev header_of : List ℕ
  header_of = printed_header (names_in s names samples) count

  header_low : length header_of ≤ most_header + 10
  header_low = header_fits s names samples count m.header (omega (arith, count_low))

  list_parts : list_to m ≡ header_of ++ flat_map printed_called_record (called_records m.list)
  unfolding printed_called_list
  list_parts = rw m.count_is

  module _ {part : List ℕ} {r : ℕ} (header : Laid [] 0 header_of part r) where
    list_length : r + len ≡ length (list_to m)
    list_length = rw list_parts (omega (arith, header.next, m.len_is, length-append header_of (flat_map printed_called_record (called_records m.list))))

    pub end_low : r + len ≤ limit
    end_low = omega (arith, header.next, header_low, len_low)

    pub part_low : (out : List ℕ) → length (take (r + len) out) ≤ limit
    part_low out = omega (arith, length-take (r + len) out, end_low)

    -- there is no room
    pub full_answered : (out : List ℕ) → length (part ++ out) < r + len → Answered (within (length out) (list_to m)) out (part ++ out) (Err refusal.Output)
    full_answered out h =
        let empty : part ≡ [] = nothing_laid header in
        let few : length out < length (list_to m) = omega (arith, ap length (ap (λ (p : List ℕ). p ++ out) empty), list_length) in
        answered_refused (not_within (list_to m) few) (ap (λ (p : List ℕ). p ++ out) empty)

    -- there is room, and the list is written over the part that it takes
    pub fitting_answered : {written : List ℕ} (out : List ℕ) → r + len ≤ length (part ++ out)
        → ((m : Measurement s names samples records at rows len count)
        → written ≡ sets (take (r + len) (part ++ out)) 0 (list_to m))
        → Answered (within (length out) (list_to m)) out (written ++ drop (r + len) (part ++ out)) (Ok (r + len))
    fitting_answered {written} out h writes =
        let empty : part ++ out ≡ out = ap (λ (p : List ℕ). p ++ out) (nothing_laid header) in
        let exact : length (take (r + len) (part ++ out)) ≡ length (list_to m) = omega (arith, length-take (r + len) (part ++ out), list_length) in
        let all : written ≡ list_to m = writes m ∙ sets_whole (take (r + len) (part ++ out)) (list_to m) exact in
        let room : length (list_to m) ≤ length out = omega (arith, ap length empty, list_length) in
        answered_written (is_within (list_to m) room) list_length (rw (all, empty, list_length))

  module _ (out : List ℕ) (small : length out ≤ limit) {out₁ : List ℕ} {from : ℕ} (header : Laid out 0 header_of out₁ from) where
    pub writing : WalkReady samples rows out₁ from
    writing = record {
      few = m.header.few;
      room = m.room;
      d₀ = out;
      bytes = header_of;
      measured = record { at_is = omega (arith, header.next, header_low); laid = header.laid; small = small };
    }

    pub list_written : {out₂ : List ℕ} (w : Result ListEnd Refusal) → WalkSays s at samples records rows out₁ from out₂ w → out₂ ≡ sets out 0 (list_to m)
    unfolding RecordsWalked writing
    list_written {out₂} w says = go w (says writing)
      where
        go : (w : Result ListEnd Refusal) → RecordsWalked (records_from samples records s at) records out header_of out₂ w → out₂ ≡ sets out 0 (list_to m)
        go (Err r) e = not_refused (sym e ∙ m.value)
        go (Ok end) laid =
            let same : laid.list ≡ m.list = accepted_same (sym laid.value ∙ m.value) in
            let bytes : header_of ++ flat_map printed_called_record (called_records laid.list) ≡ list_to m = rw same (sym list_parts) in
            laid.laid.measured.laid ∙ ap (sets out 0) bytes
