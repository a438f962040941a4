-- `called_list_read`: the printed called list of a list that reads reads back as its names and its called records.
use Prim.Native.Nat.{◌*◌, ◌+◌, ◌-◌, ◌<◌, ◌≤◌, suc, ℕ}
use borrow.Author.Tests.{le-leb, leb-true, not-true}
use lib.Dec.{ltb}
use lib.ListN.{drop, get_or, length, length-append, length-drop, length-map}
use lib.Seq.{get_or-drop}
use mathlib.Core.Bool.{Bool, cond, false, true}
use mathlib.Core.List.{List, [], ◌++◌, ◌∷◌, flat_map, map}
use mathlib.Core.Logic.{inl, inr}
use mathlib.Core.Option.{none, some}
use mathlib.Core.Path.{◌∙◌, ◌≡◌, ap, refl, subst, sym}
use native.Mathlib.Nat.{add-zero}
use native.Mathlib.Omega.{arith}
use Rattle.definitions.specs.Alleles.{alleles_of, written_alleles}
use Rattle.definitions.specs.Bytes.{line_feed, text}
use Rattle.definitions.specs.CalledList.{called_data, called_record, called_records, is_called, non_ref_number, printed_called_list, printed_called_record}
use Rattle.definitions.specs.Checked.{accepted, in_order}
use Rattle.definitions.specs.CombinedList.{fits}
use Rattle.definitions.specs.Genotypes.{SampleData}
use Rattle.definitions.specs.Limits.{max_alleles, max_letters, max_text_length}
use Rattle.definitions.specs.Lines.{Line, key_of, lines_of}
use Rattle.definitions.specs.ListReader.{WrittenList, comes_after, counts_fit, list_read, record_lines, record_read, sample_lines, with_missing, written_list}
use Rattle.definitions.specs.Lists.{all_of, filter_by, groups_of, numbers_from}
use Rattle.definitions.specs.Numbers.{decimal, decimals, max_number, name, number, number_list, or_missing, written_or_missing}
use Rattle.definitions.specs.Printed.{printed_values}
use Rattle.definitions.specs.Records.{Record, record_end}
use Rattle.definitions.specs.SelectionSheet.{called_data_read, called_lines, called_read, called_record_read}
use Rattle.laws.proofs.CalledSound.{called_alleles, called_data_sound, non_ref_below, one_less, other_alts}
use Rattle.laws.proofs.Checked.{accepted_same, after_required, after_then, each_read_length, or_refused, required, then}
use Rattle.laws.proofs.Decimals.{number_decimal}
use Rattle.laws.proofs.Every.{Every, Pairwise, alone, also, before_all, each_counted, each_map, every_all, every_both, every_filter, every_map, every_of_map, filter_passes, flat_map_length, if_there, nothing, pairwise_filter, pairwise_of_map, passes_every}
use Rattle.laws.proofs.Genotypes.{genotype_count_some}
use Rattle.laws.proofs.Groups.{groups_few}
use Rattle.laws.proofs.GroupsReadBack.{Written, count_there, names_there, records_there}
use Rattle.laws.proofs.Lines.{Lays, keyed, lays_append, lays_flat_map, lays_line, line_at_lem, lines_few}
use Rattle.laws.proofs.Members.{filter_few}
use Rattle.laws.proofs.RecordReadBack.{ReadAlleles, alleles_read, counts_fit_lem, each_sample_read}
use Rattle.laws.proofs.RecordsInOrder.{After, Past, after_past, each_after_lem, in_list_order, past_after, pos_last}
use Rattle.laws.proofs.SoundInput.{SoundHeader}
use Rattle.laws.proofs.SoundList.{SoundList, list_sound}
use Rattle.laws.proofs.SoundRecords.{SoundRecord, SoundRecords, SoundSampleData}
use Rattle.laws.proofs.SoundValues.{counted}
use Rattle.laws.proofs.Tests.{both, both_of}
use Rattle.laws.proofs.ValuesReadBack.{alleles_no_line_feed, decimal_no_line_feed, decimals_no_line_feed, letters_no_line_feed, list_or_missing, missing_no_line_feed, name_no_line_feed, name_read, number_or_missing}

-- ---- lines

-- the lines of a sample, and of a record
abbrev lines_of_values : SampleData → List (List ℕ)
lines_of_values v =
    keyed "gq" (written_or_missing decimal v.gq)
    ∷ keyed "dp" (written_or_missing decimal v.dp)
    ∷ keyed "ad" (written_or_missing decimals v.ad)
    ∷ keyed "pl" (written_or_missing decimals v.pl)
    ∷ []

abbrev lines_of_called : Record → List (List ℕ)
lines_of_called r =
    keyed "contig" r.contig
    ∷ keyed "pos" (decimal r.pos)
    ∷ keyed "ref" r.alleles.ref
    ∷ keyed "alt" (written_alleles r.alleles.alts)
    ∷ flat_map lines_of_values r.sample_data

values_lay : (v : SampleData) → Lays (printed_values v) (lines_of_values v)
unfolding printed_values key_of text line_feed all_of
values_lay v =
    lays_append (lays_append (lays_append
    (lays_line "gq" refl (missing_no_line_feed decimal v.gq decimal_no_line_feed))
    (lays_line "dp" refl (missing_no_line_feed decimal v.dp decimal_no_line_feed)))
    (lays_line "ad" refl (missing_no_line_feed decimals v.ad decimals_no_line_feed)))
    (lays_line "pl" refl (missing_no_line_feed decimals v.pl decimals_no_line_feed))

-- ---- a sample

module _ (group : List Line) (n sample : ℕ) (v : SampleData) (rest : List Line) (some-alleles : 0 < n)
    (here : drop (called_lines + called_lines * sample) group ≡ map some (lines_of_values v) ++ rest) (s : SoundSampleData n v) where
  place : (k : ℕ) → get_or group (called_lines + called_lines * sample + k) none ≡ get_or (map some (lines_of_values v) ++ rest) k none
  place k = sym (get_or-drop (called_lines + called_lines * sample) group k none) ∙ rw here

  values_read : called_data_read group sample
      ≡ accepted (record { gt = none; gq = v.gq; dp = v.dp; mindp = none; ad = v.ad; pl = v.pl })
  unfolding called_data_read
  values_read =
      let first = called_lines + called_lines * sample in
      let ad = list_or_missing v.ad (if_there v.ad (λ l. counted some-alleles) s.ad) in
      let pl = list_or_missing v.pl (if_there v.pl (λ l. counted (genotype_count_some n some-alleles)) s.pl) in
      then _ _ (line_at_lem group first "gq" (or_missing number) (rw add-zero at (place 0)) (number_or_missing v.gq s.gq))
      (then _ _ (line_at_lem group (first + 1) "dp" (or_missing number) (place 1) (number_or_missing v.dp s.dp))
      (then _ _ (line_at_lem group (first + 2) "ad" (or_missing number_list) (place 2) ad)
      (then _ _ (line_at_lem group (first + 3) "pl" (or_missing number_list) (place 3) pl)
      refl)))

-- ---- a record

-- a record of a list that calls a variant
record Called (samples : ℕ) (r : Record) : Type 0 where
  sound : SoundRecord samples r
  is : is_called r ≡ true

-- what it says of a sample
abbrev made : Record → SampleData → SampleData
made r = called_data (length (alleles_of r.alleles)) (non_ref_number r.alleles)

module _ (samples : ℕ) (r : Record) (c : Called samples r) where
  alleles : ReadAlleles max_letters max_alleles (called_record r).alleles
  unfolding called_record is_called
  alleles = called_alleles r.alleles c.sound.alleles (not-true _ (both_of _ _ c.is).0)

  sample_data_lem : Every (λ v. SoundSampleData (suc (length (called_record r).alleles.alts)) (made r v)) r.sample_data
  unfolding alleles_of called_record
  sample_data_lem =
      let count : suc (length r.alleles.alts) - 1 ≡ suc (length (other_alts r.alleles.alts)) =
      omega (arith, one_less r.alleles c.sound.alleles) in
      every_map
      (λ v h. subst (λ (n : ℕ). SoundSampleData n (made r v)) count
      (called_data_sound (suc (length r.alleles.alts)) (non_ref_number r.alleles) v (non_ref_below r.alleles) h))
      c.sound.sample_data

  called_lays : Lays (printed_called_record (called_record r)) (lines_of_called (called_record r))
  unfolding printed_called_record called_record key_of text line_feed all_of
  called_lays =
      lays_append (lays_append (lays_append (lays_append
      (lays_line "contig" refl (name_no_line_feed c.sound.contig))
      (lays_line "pos" refl (decimal_no_line_feed r.pos)))
      (lays_line "ref" refl (letters_no_line_feed alleles.ref)))
      (lays_line "alt" refl (alleles_no_line_feed max_letters alleles.alts)))
      (lays_flat_map printed_values lines_of_values (every_all values_lay _))

  called_lines_lem : length (lines_of_called (called_record r)) ≡ called_lines + called_lines * samples
  unfolding called_lines called_record
  called_lines_lem =
      let vs = (called_record r).sample_data in
      let four : length (flat_map lines_of_values vs) ≡ 4 * length vs = flat_map_length lines_of_values 4 (every_all (λ v. refl) vs) in
      omega (arith, length-map r.sample_data (made r), c.sound.sample_count)

  called_record_read_lem : (count : ℕ) (before : List Record) → comes_after before r.contig r.pos ≡ true → length before < count
      → called_record_read samples count before (map some (lines_of_called (called_record r))) ≡ accepted (called_record r)
  unfolding called_record_read called_lines called_record called_data
  called_record_read_lem count before after enough =
      required _ _ _ (le-leb (suc (length before)) count enough)
      (then _ _ (line_at_lem group 0 "contig" name refl (name_read c.sound.contig))
      (then _ _ (line_at_lem group 1 "pos" number refl (number_decimal r.pos c.sound.in_range_lem))
      (then _ _ (line_at_lem group 2 "ref" some refl refl)
      (then _ _ (line_at_lem group 3 "alt" some refl refl)
      (then _ _ data_there
      (required _ _ _ (both (le-leb 1 r.pos c.sound.from_one) after)
      (then _ _ (or_refused 5 _ (alleles_read max_letters max_alleles (called_record r).alleles alleles))
      (required _ _ _ (passes_every (counts_fit (called_record r).alleles) fit) refl))))))))
    where
      group : List Line
      group = map some (lines_of_called (called_record r))

      sound : Every (SoundSampleData (suc (length (called_record r).alleles.alts))) (map (made r) r.sample_data)
      sound = every_of_map (made r) sample_data_lem

      data_there : in_order (map (called_data_read group) (numbers_from 0 samples)) ≡ accepted (map (made r) r.sample_data)
      data_there =
          subst (λ (n : ℕ). in_order (map (called_data_read group) (numbers_from 0 n)) ≡ accepted (map (made r) r.sample_data))
          (length-map r.sample_data (made r) ∙ c.sound.sample_count)
          (each_sample_read group called_lines called_lines lines_of_values (called_data_read group) (λ v. refl) 0 refl
          (every_of_map (made r)
          (every_map (λ v h k rest here. values_read group _ k (made r v) rest (omega arith) here h) sample_data_lem)))

      fit : Every (λ v. counts_fit (called_record r).alleles v ≡ true) (map (made r) r.sample_data)
      fit = every_map (counts_fit_lem (called_record r).alleles) sound

-- ---- the list

-- called records keep the order
after_called : {samples : ℕ} (r s : Record) → SoundRecord samples r → After r s → After (called_record r) (called_record s)
unfolding called_record record_end
after_called r s h a = past_after (called_record r) (called_record s) (go (after_past r s a))
  where
    go : Past r s → Past (called_record r) (called_record s)
    go (inl e) = inl e
    go (inr (e, k)) = inr (e, (let z = pos_last r h in omega arith))

module _ (names : List (List ℕ)) (records : List Record) (h : SoundHeader names) (t : SoundRecords (length names) records) where
  are_called : Every (Called (length names)) (filter_by is_called records)
  are_called = every_map (λ r h. record { sound = h.0; is = h.1 })
      (every_both (every_filter is_called records (in_list_order t).0) (filter_passes is_called records))

  in_order_lem : Pairwise After (called_records records)
  unfolding called_records
  in_order_lem = pairwise_of_map called_record (go (pairwise_filter is_called (in_list_order t).1) are_called)
    where
      go : {rs : List Record} → Pairwise After rs → Every (Called (length names)) rs
          → Pairwise (λ r s. After (called_record r) (called_record s)) rs
      go alone nothing = alone
      go (before_all {x = r} a as') (also c cs) = before_all (every_map (λ s k. after_called r s c.sound k) a) (go as' cs)

  written : Written printed_called_record lines_of_called (called_lines + called_lines * length names) names (called_records records)
  unfolding called_lines called_records
  written = record {
    header = h;
    some_line = omega arith;
    lays = every_of_map called_record (every_map (called_lays (length names)) are_called);
    long = every_of_map called_record (every_map (called_lines_lem (length names)) are_called);
  }

  abbrev ReadsAs : Record → Type 0
  ReadsAs r =
      (count : ℕ) (before : List Record) → comes_after before r.contig r.pos ≡ true → length before < count
      → called_record_read (length names) count before (map some (lines_of_called r)) ≡ accepted r

  each_reads : Every ReadsAs (called_records records)
  unfolding called_records called_record
  each_reads = every_of_map called_record (every_map (called_record_read_lem (length names)) are_called)

  called_there : length (called_records records) ≤ max_number
      → called_read (printed_called_list names (called_records records)) ≡ accepted (record { names = names; records = called_records records })
  unfolding called_read printed_called_list
  called_there few-records =
      let count = length (called_records records) in
      then _ _ (names_there written)
      (then _ _ (count_there written few-records)
      (then _ _ (records_there written (called_record_read (length names) count)
      (each_map (λ before r h. h.0.0 count before h.0.1 h.1) (each_counted count (omega arith) (each_after_lem each_reads in_order_lem))))
      refl))

-- a list that a call is given has few records
written_few : (list : List ℕ) (w : WrittenList) → written_list list ≡ accepted w → length w.records ≤ max_number
unfolding written_list list_read fits max_number with_missing
written_few list w e =
    after_required _ _ _ e λ short e. after_then _ _ e λ names p e. after_then _ _ e λ count q e. after_then _ _ e λ records r e.
    let ls = drop (2 + length names) (lines_of list) in
    let size = record_lines + sample_lines * length names in
    let same = ap (λ (w : WrittenList). length w.records) (accepted_same e) in
    omega (
      arith,
      leb-true (length list) max_text_length short,
      lines_few list,
      length-drop (2 + length names) (lines_of list),
      groups_few size ls,
      missing_few count (groups_of size ls),
      each_read_length (record_read (length names) count) [] records (with_missing count (groups_of size ls)) r,
    )
  where
    missing_few : (count : ℕ) (groups : List (List Line)) → length (with_missing count groups) ≤ suc (length groups)
    missing_few count groups = go (ltb (length groups) count)
      where
        go : (b : Bool) → length (groups ++ cond b ([] ∷ []) []) ≤ suc (length groups)
        go true = omega (arith, length-append {A = List Line} groups ([] ∷ []))
        go false = omega (arith, length-append {A = List Line} groups [])

pub called_list_read : (list : List ℕ) (w : WrittenList) → written_list list ≡ accepted w
    → called_read (printed_called_list w.names (called_records w.records))
    ≡ accepted (record { names = w.names; records = called_records w.records })
called_list_read list w e =
    let sound : SoundList w = unfold written_list in after_required _ _ _ e λ short read. list_sound list w read in
    let few : length (called_records w.records) ≤ max_number = unfold called_records in
    omega (arith, length-map (filter_by is_called w.records) called_record, filter_few is_called w.records, written_few list w e) in
    called_there w.names w.records sound.names sound.records few
