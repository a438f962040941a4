-- A list as a header and a printed group for each record: `names_there`, `count_there` and `records_there` read them back.
use Prim.Native.Nat.{◌+◌, ◌<◌, ◌≤◌, suc, ℕ}
use borrow.Author.Tests.{lt-leb}
use lib.ListN.{drop, get_or, length, length-map}
use lib.Seq.{drop_at, drop-drop, get_or_at}
use mathlib.Core.List.{List, [], ◌++◌, ◌∷◌, append_assoc, append-nil, flat_map, map, map-append, map-map}
use mathlib.Core.Option.{none, some}
use mathlib.Core.Path.{◌∙◌, ◌≡◌, refl}
use native.Mathlib.Omega.{arith}
use Rattle.definitions.specs.Bytes.{line_feed, text}
use Rattle.definitions.specs.Checked.{Checked, accepted, read_each}
use Rattle.definitions.specs.Cohort.{samples_of}
use Rattle.definitions.specs.Lines.{Line, key_of, line, line_at, lines_of}
use Rattle.definitions.specs.ListReader.{with_missing}
use Rattle.definitions.specs.Lists.{all_of, groups_of}
use Rattle.definitions.specs.Numbers.{decimal, max_number, number}
use Rattle.definitions.specs.Printed.{printed_header}
use Rattle.definitions.specs.Records.{Record}
use Rattle.laws.proofs.Checked.{each_read}
use Rattle.laws.proofs.Decimals.{number_decimal}
use Rattle.laws.proofs.Every.{EachAfter, Every, every_map, every_of_each}
use Rattle.laws.proofs.Groups.{groups_flat_map}
use Rattle.laws.proofs.HeaderReadBack.{sample_line, samples_read}
use Rattle.laws.proofs.Lines.{Lays, keyed, lays_append, lays_flat_map, lays_line, lays_lines, lays_map, line_at_lem}
use Rattle.laws.proofs.Members.{map_flat_map}
use Rattle.laws.proofs.SoundInput.{SoundHeader}
use Rattle.laws.proofs.SoundValues.{Name}
use Rattle.laws.proofs.ValuesReadBack.{decimal_no_line_feed, name_no_line_feed}

-- the header, and what is written for each record
abbrev pub printed_with : (Record → List ℕ) → List (List ℕ) → List Record → List ℕ
printed_with write names records = printed_header names (length records) ++ flat_map write records

-- the names are sound, and what is written for each record is so many lines
pub record Written (write : Record → List ℕ) (lines : Record → List (List ℕ)) (size : ℕ) (names : List (List ℕ)) (records : List Record)
    : Type 0 where
  pub header : SoundHeader names
  pub some_line : 0 < size
  pub lays : Every (λ r. Lays (write r) (lines r)) records
  pub long : Every (λ r. length (lines r) ≡ size) records

abbrev header_lines : List (List ℕ) → ℕ → List (List ℕ)
header_lines names records =
    keyed "samples" (decimal (length names)) ∷ (map (keyed "sample") names ++ (keyed "records" (decimal records) ∷ []))

header_lays : (names : List (List ℕ)) (records : ℕ) → Every Name names
    → Lays (printed_header names records) (header_lines names records)
unfolding printed_header key_of text line_feed all_of
header_lays names records s =
    lays_append (lays_append
    (lays_line "samples" refl (decimal_no_line_feed (length names)))
    (lays_map (line "sample") (keyed "sample") (every_map (λ n h. lays_line "sample" refl (name_no_line_feed h)) s)))
    (lays_line "records" refl (decimal_no_line_feed records))

module _ {write : Record → List ℕ} {lines : Record → List (List ℕ)} {size : ℕ} {names : List (List ℕ)} {records : List Record}
    (h : Written write lines size names records) where
  abbrev count_line : Line
  count_line = some (keyed "records" (decimal (length records)))

  abbrev record_lines : List Line
  record_lines = map some (flat_map lines records)

  list_lines : lines_of (printed_with write names records)
      ≡ some (keyed "samples" (decimal (length names))) ∷ (map sample_line names ++ (count_line ∷ record_lines))
  list_lines =
      lays_lines (lays_append
      (header_lays names (length records) (every_of_each (λ before n k. k.name) h.header.sound))
      (lays_flat_map write lines h.lays))
      ∙ rw (
        append_assoc (map (keyed "sample") names) (keyed "records" (decimal (length records)) ∷ []) (flat_map lines records),
        map-append some (map (keyed "sample") names) (keyed "records" (decimal (length records)) ∷ flat_map lines records),
        map-map some (keyed "sample") names,
      )

  pub names_there : samples_of (lines_of (printed_with write names records)) ≡ accepted names
  names_there = rw list_lines (samples_read names (count_line ∷ record_lines) h.header.sound h.header.some_name h.header.few)

  pub count_there : length records ≤ max_number
      → line_at (lines_of (printed_with write names records)) (suc (length names)) "records" number ≡ accepted (length records)
  count_there few-records =
      line_at_lem (lines_of (printed_with write names records)) (suc (length names)) "records" number at
      (number_decimal (length records) few-records)
    where
      at : get_or (lines_of (printed_with write names records)) (suc (length names)) none ≡ count_line
      at = rw list_lines (get_or_at (map sample_line names) count_line record_lines none (length names) (length-map names sample_line))

  groups_there : groups_of size (drop (2 + length names) (lines_of (printed_with write names records)))
      ≡ map (λ r. map some (lines r)) records
  groups_there =
      let two : 2 + length names ≡ suc (length names + 1) = omega arith in
      rw (
        list_lines,
        two,
        ← drop-drop 1 (length names) (map sample_line names ++ (count_line ∷ record_lines)),
        drop_at (map sample_line names) (count_line ∷ record_lines) (length names) (length-map names sample_line),
        map_flat_map some lines records,
      )
      (groups_flat_map size h.some_line (λ r. map some (lines r)) (every_map (λ r e. length-map (lines r) some ∙ e) h.long))

  none_missing : (groups : List (List Line)) → length groups ≡ length records → with_missing (length records) groups ≡ groups
  unfolding with_missing
  none_missing groups e = rw (lt-leb (suc (length groups)) (length records) (omega arith), append-nil)

  pub records_there : (read : List Record → List Line → Checked Record)
      → EachAfter (λ before r. read before (map some (lines r)) ≡ accepted r) [] records
      → read_each read []
      (with_missing (length records) (groups_of size (drop (2 + length names) (lines_of (printed_with write names records)))))
      ≡ accepted records
  records_there read each =
      rw (groups_there, none_missing (map (λ r. map some (lines r)) records) (length-map records (λ r. map some (lines r))))
      (each_read read (λ r. map some (lines r)) each)
