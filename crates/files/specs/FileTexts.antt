-- What the programs take of a file, by what came of reading it.
use Rattle.std.specs.Prelude.{◌<◌, ◌≤◌, ℕ, length, take, Bool, false, true, List, ◌≡◌, Result, Ok, Err, None, Some}
use Rattle.std.specs.Prelude as std
use Rattle.std.proofs.Math.Option.{Option, none, some}
use Rattle.definitions.specs.Checked.{Checked, accepted, refused}
use Rattle.definitions.specs.Limits.{program_bytes}
use Rattle.files.specs.declared.ReadError.{ReadError}
use Rattle.files.specs.declared.ReadError.TheVariants.{Failed, TooLong}

-- what came of reading a file: its length, none if it is absent, or why there is no text
abbrev pub ReadAnswer : Type 0
ReadAnswer = Result (std.Option ℕ) ReadError

-- what is taken of a file that was read into a buffer: its text, nothing if it is absent, 2 if it is too long. The programs end where reading
-- failed, and take nothing.
abbrev pub read_text : ReadAnswer → List ℕ → Checked (Option (List ℕ))
read_text (Ok (Some count)) buffer = accepted (some (take count buffer))
read_text (Ok None) buffer = accepted none
read_text (Err TooLong) buffer = refused 2
read_text (Err Failed) buffer = accepted none

-- the same in parts
abbrev pub has_failed : ReadAnswer → Bool
has_failed (Ok read) = false
has_failed (Err TooLong) = false
has_failed (Err Failed) = true

abbrev pub too_long : ReadAnswer → Bool
too_long (Ok read) = false
too_long (Err TooLong) = true
too_long (Err Failed) = false

abbrev pub has_text : ReadAnswer → Bool
has_text (Ok (Some count)) = true
has_text (Ok None) = false
has_text (Err error) = false

abbrev pub text_length : ReadAnswer → ℕ
text_length (Ok (Some count)) = count
text_length (Ok None) = 0
text_length (Err error) = 0

-- a text that was read has fewer bytes than this
abbrev pub Below : ℕ → ReadAnswer → Type 0
Below size (Ok (Some count)) = count < size
Below size (Ok None) = Unit {0}
Below size (Err error) = Unit {0}

-- A file with these contents, `none` if it is absent, was read whole into a buffer, or found to be too long. No contract can say so of the
-- kit's `read`.
pub data ReadWhole : Option (List ℕ) → ReadAnswer → List ℕ → Type 0 where
  absent : {buffer : List ℕ} → ReadWhole none (Ok None) buffer
  whole : {s buffer : List ℕ} → length s ≤ program_bytes → take (length s) buffer ≡ s → ReadWhole (some s) (Ok (Some (length s))) buffer
  long : {s buffer : List ℕ} → program_bytes < length s → ReadWhole (some s) (Err TooLong) buffer
