-- What reading the line at an offset of a text finds.
use Rattle.std.specs.Prelude.{◌+◌, ◌-◌, ◌<◌, ◌≤◌, suc, zero, ℕ, drop, get_or, length, List, [], ◌≡◌}
use Rattle.std.proofs.lemmas.List.Edits.{sets}
use Rattle.std.proofs.Math.Option
use Rattle.std.proofs.Math.Option.{Option, bind, none, some}
use Rattle.definitions.specs.Bytes.{comma, fields_of, line_feed}
use Rattle.definitions.specs.Lines.{lines_of, value_of}
use Rattle.definitions.specs.Numbers.{number_list}
use Rattle.kv_text.specs.Fields.{between, field_length, first_numbers}
use Rattle.answers.specs.Options.{option_of}
use Rattle.kv_text.specs.declared.ListStart.{ListStart}
use Rattle.kv_text.specs.declared.Part.{Part}
use Rattle.kv_text.specs.declared.Reader.{Reader}
use Rattle.std.specs.Prelude as std

-- nothing, or what was read and where its LF stands
pub data LineFound (A : Type 0) : Type 0 where
  unread : LineFound A
  read_to : A → ℕ → LineFound A

-- where the line at an offset ends: at the first LF there or after, or where the text ends
unfoldable pub line_end : List ℕ → ℕ → ℕ
line_end s at = at + field_length line_feed (drop at s)

-- where the line begins that stands so many lines behind the one at an offset
unfoldable pub line_start : List ℕ → ℕ → ℕ → ℕ
line_start s at zero = at
line_start s at (suc k) = line_start s (line_end s at + 1) k

-- the first line of a text from an offset on, if it has this key and a value that reads
unfoldable pub line_value : {A : Type 0} → List ℕ → ℕ → List ℕ → (List ℕ → Option A) → Option A
line_value s at key read = bind (value_of key (get_or (lines_of (drop at s)) 0 none)) read

-- the line at the offset reads as this, it ends at e with its LF, and the lines behind it are those from e + 1 on
pub record LineTo {A : Type 0} (s : List ℕ) (at : ℕ) (key : List ℕ) (read : List ℕ → Option A) (a : A) (e : ℕ) : Type 0 where
  pub value : line_value s at key read ≡ some a
  pub ends : e ≡ line_end s at
  pub forward : at ≤ e
  pub within : e < length s
  pub feed : get_or s e 0 ≡ line_feed
  pub rest : drop 1 (lines_of (drop at s)) ≡ lines_of (drop (e + 1) s)

unfoldable pub LineReads : {A : Type 0} → List ℕ → ℕ → List ℕ → (List ℕ → Option A) → LineFound A → Type 0
LineReads s at key read unread = line_value s at key read ≡ none
LineReads s at key read (read_to a e) = LineTo s at key read a e

-- k lines behind the offset `at₀`, the text goes on at `at`
pub record Behind (s : List ℕ) (at₀ k at : ℕ) : Type 0 where
  pub lines : drop k (lines_of (drop at₀ s)) ≡ lines_of (drop at s)
  pub forward : at₀ ≤ at

-- what was read of a line, and where its LF stands
abbrev pub found : {A : Type 0} → std.Option (A × ℕ) → LineFound A
found (std.Some (a, e)) = read_to a e
found std.None = unread

-- the part of a text that stands up to a line's LF
abbrev pub value_found : List ℕ → std.Option Part → LineFound (List ℕ)
value_found s (std.Some part) = read_to (between s part.at part.end) part.end
value_found s std.None = unread

-- a value from a on, up to an LF at e, begins behind the key of the line at an offset
pub record ValueStands (at : ℕ) (key : List ℕ) (a e : ℕ) : Type 0 where
  pub begins : a ≡ at + length key
  pub forward : a ≤ e

abbrev pub Placed : ℕ → List ℕ → std.Option Part → Type 0
Placed at key (std.Some part) = ValueStands at key part.at part.end
Placed at key std.None = Unit {0}

-- the value of the line at an offset, with this key
abbrev pub ValueRead : List ℕ → ℕ → List ℕ → std.Option Part → Type 0
ValueRead s at key v = LineReads s at key some (value_found s v) × Placed at key v

-- where a value stands that begins there, with its line's LF just before `next`
abbrev pub value_before : std.Option ℕ → ℕ → std.Option Part
value_before (std.Some a) next = std.Some (record { at = a; end = next - 1 })
value_before std.None next = std.None

-- there is an offset before `next`, if there is a value
abbrev pub NextBehind : std.Option ℕ → ℕ → Type 0
NextBehind (std.Some a) next = 0 < next
NextBehind std.None next = Unit {0}

-- where the text goes on after the line at an offset: behind the LF, or where it was
abbrev pub behind_line : ℕ → std.Option Part → ℕ
behind_line at (std.Some part) = part.end + 1
behind_line at std.None = at

-- a reader, moved there
abbrev pub moved_behind : Reader → std.Option Part → Reader
moved_behind r v = record { text = r.text; at = behind_line r.at v }

-- a number that may be missing
abbrev pub optional_found : std.Option (std.Option ℕ × ℕ) → LineFound (Option ℕ)
optional_found (std.Some (n, e)) = read_to (option_of n) e
optional_found std.None = unread

-- a list of numbers that may be missing
abbrev pub list_found : List ℕ → std.Option (std.Option ListStart × ℕ) → LineFound (Option (List ℕ))
list_found s (std.Some (std.None, e)) = read_to none e
list_found s (std.Some (std.Some list, e)) = read_to (some (first_numbers (fields_of comma (between s list.at e)))) e
list_found s std.None = unread

-- the list stands before its LF, reads, and has so many numbers
abbrev pub list_count : List ℕ → std.Option (std.Option ListStart × ℕ) → Type 0
list_count s (std.Some (std.None, e)) = Unit {0}
list_count s (std.Some (std.Some list, e)) =
    (list.at ≤ e) × (number_list (between s list.at e) ≡ some (first_numbers (fields_of comma (between s list.at e))))
    × (list.count ≡ length (first_numbers (fields_of comma (between s list.at e))))
list_count s std.None = Unit {0}

-- the numbers of the list in the line at an offset, up to the first field that spells none; none if no line has the key
unfoldable pub line_numbers : List ℕ → ℕ → List ℕ → List ℕ
line_numbers s at key = first_numbers (fields_of comma (Option.get_or (line_value s at key some) []))

-- what a slice holds after the answer: the list's numbers at its front, as many as fit; of a list that does not read, those before the fault
abbrev pub ListStored : List ℕ → ℕ → List ℕ → List ℕ → List ℕ → std.Option (std.Option ListStart × ℕ) → Type 0
ListStored s at key before after (std.Some (std.None, e)) = after ≡ before
ListStored s at key before after (std.Some (std.Some list, e)) = after ≡ sets before 0 (Option.get_or (number_list (between s list.at e)) [])
ListStored s at key before after std.None = after ≡ sets before 0 (line_numbers s at key)
