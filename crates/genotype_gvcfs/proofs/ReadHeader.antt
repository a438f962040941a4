-- From the text to its header and its `records` line: what the called list is of them.
use Prim.Native.Nat.{◌+◌, ◌<◌, ◌≤◌, suc, ℕ}
use borrow.Author.Tests.{le-leb, lt-leb}
use lib.ListN.{drop, get_or, length}
use lib.Seq.{get_or-drop}
use mathlib.Core.Bool.{true}
use mathlib.Core.List.{List}
use mathlib.Core.Option.{bind, none}
use mathlib.Core.Path.{◌∙◌, ◌≡◌, ap, refl}
use native.Mathlib.Nat.{add-zero}
use native.Mathlib.Omega.{arith}
use Rattle.cohort.proofs.Whole.{names_count}
use Rattle.definitions.specs.CalledList.{called_list, called_records, printed_called_list}
use Rattle.definitions.specs.Checked.{Checked, ◌>>=◌, accepted, or_refuse, refused, within}
use Rattle.definitions.specs.Cohort.{samples_of}
use Rattle.definitions.specs.CombinedList.{fits}
use Rattle.definitions.specs.Lines.{Line, key_of, line_at, lines_of, value_of}
use Rattle.definitions.specs.ListReader.{WrittenList, list_read, written_list}
use Rattle.definitions.specs.Numbers.{number}
use Rattle.kv_text.proofs.Groups.{behind_next}
use Rattle.kv_text.specs.Lines.{LineReads, LineTo, line_value, unread}
use Rattle.laws.proofs.Checked.{not_required, required, then, then_refused}
use Rattle.laws.proofs.Every.{every_of_each}
use Rattle.laws.proofs.SoundInput.{samples_sound}
use Rattle.laws.proofs.SoundRecords.{NameAfter}
use Rattle.list_header.specs.HeaderNames.{HeaderNames}
use Rattle.tables.specs.Tables.{names_in}
use Rattle.genotype_gvcfs.specs.Called.{HeaderHeld, called_from}
use Rattle.genotype_gvcfs.specs.Walk.{records_from}

-- one answer after another, of which the first is changed
then_changed : {A B C : Type 0} (m : Checked A) (f : A → B) (g : B → Checked C) → ((m >>= λ a. accepted (f a)) >>= g) ≡ (m >>= λ a. g (f a))
unfolding ◌>>=◌
then_changed (refused n) f g = refl
then_changed (accepted a) f g = refl

pub header_names : {s names : List ℕ} {samples at : ℕ} → HeaderHeld s names samples at → HeaderNames s names samples
header_names {s} {names} {samples} h = record {
  in_table = h.in_table;
  few = h.few;
  named = every_of_each (λ before n (k : NameAfter before n). k.name) (samples_sound (lines_of s) (names_in s names samples) h.value).sound;
}

pub short_enough : (s : List ℕ) → length s ≤ 16777216 → fits s ≡ true
unfolding fits
short_enough s h = le-leb (length s) 16777216 h

module _ (s : List ℕ) (room : ℕ) where
  pub too_long_lem : 16777216 < length s → called_list s room ≡ refused 2
  unfolding called_list written_list fits
  too_long_lem h = then_refused _ _ (not_required _ _ _ (lt-leb (length s) 16777216 h))

  -- the list is refused if reading it is
  list_refused : {row : ℕ} → fits s ≡ true → list_read s ≡ refused row → called_list s room ≡ refused row
  unfolding called_list written_list
  list_refused short e = then_refused _ _ (required _ _ _ short e)

  pub header_refused : {row : ℕ} → fits s ≡ true → samples_of (lines_of s) ≡ refused row → called_list s room ≡ refused row
  unfolding list_read
  header_refused short e = list_refused short (then_refused _ _ e)

  module _ {names : List ℕ} {samples at : ℕ} (h : HeaderHeld s names samples at) where
    -- the line behind the header is the one at the offset
    records_line : line_at (lines_of s) (suc (length (names_in s names samples))) "records" number ≡ or_refuse 1 (line_value s at (key_of "records") number)
    unfolding line_at line_value
    records_line =
        let here : get_or (lines_of s) (suc samples) none ≡ get_or (lines_of (drop at s)) 0 none =
        rw (← h.behind.lines, get_or-drop (suc samples) (lines_of s) 0 none, add-zero (suc samples)) in
        rw (← names_count s names samples) (ap (λ (l : Line). or_refuse 1 (bind (value_of (key_of "records") l) number)) here)

    pub records_unread : LineReads s at (key_of "records") number unread → called_list s room ≡ refused 1
    unfolding list_read LineReads or_refuse
    records_unread l = list_refused h.short (then _ _ h.value (then_refused _ _ (records_line ∙ rw l)))

    module _ {records end : ℕ} (l : LineTo s at (key_of "records") number records end) where
      records_read : line_at (lines_of s) (suc (length (names_in s names samples))) "records" number ≡ accepted records
      unfolding or_refuse
      records_read = records_line ∙ rw l.value

      rest : drop (2 + length (names_in s names samples)) (lines_of s) ≡ lines_of (drop (end + 1) s)
      unfolding LineReads
      rest =
          let lines = (behind_next h.behind "records" number records end l).lines in
          let k : 2 + samples ≡ suc samples + 1 = omega arith in
          rw (← names_count s names samples, k) lines

      list_is : list_read s ≡ (records_from samples records s (end + 1) >>= λ list. accepted (record { names = names_in s names samples; records = list }))
      unfolding list_read records_from
      list_is = then _ _ h.value (then _ _ records_read (rw (rest, ← names_count s names samples)))

      pub called_is : called_list s room ≡ called_from s names samples records (end + 1) room
      unfolding called_list written_list called_from
      called_is =
          ap (λ (m : Checked WrittenList). m >>= λ w. within room (printed_called_list w.names (called_records w.records))) (required 2 _ _ h.short list_is)
          ∙ then_changed (records_from samples records s (end + 1)) (λ list. record { names = names_in s names samples; records = list }) _
