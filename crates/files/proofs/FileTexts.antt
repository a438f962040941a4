-- What is taken of a file.
use Prim.Native.Nat.{◌-◌, ℕ}
use borrow.Author.Tests.{le-leb, lt-leb}
use lib.ListN.{take}
use mathlib.Core.Bool.{Bool, false, true}
use mathlib.Core.List.{List, []}
use mathlib.Core.Option.{Option, get_or}
use mathlib.Core.Path.{◌≡◌, refl, sym}
use native.Mathlib.Nat.{sub-zero}
use Rattle.definitions.specs.Answers.{file_fits, file_text}
use Rattle.definitions.specs.Checked.{accepted, refused}
use Rattle.definitions.specs.Lists.{missing_or, only_if}
use Rattle.laws.proofs.Checked.{not_required, required}
use Rattle.files.specs.FileTexts.{ReadAnswer, ReadWhole, absent, has_text, long, read_text, text_length, too_long, whole}
use Rattle.files.specs.declared.ReadError.TheVariants.{Failed, TooLong}
use Rattle.std.specs.Prelude.{Err, None, Ok, Some}

-- ---- from its parts

pub taken_long : (read : ReadAnswer) (buffer : List ℕ) → too_long read ≡ true → read_text read buffer ≡ refused 2
taken_long (Ok read) buffer e = let z : ◌≡◌ {A = Bool} false true = e in cc
taken_long (Err TooLong) buffer e = refl
taken_long (Err Failed) buffer e = let z : ◌≡◌ {A = Bool} false true = e in cc

pub taken_whole : (read : ReadAnswer) (buffer : List ℕ) → too_long read ≡ false
    → read_text read buffer ≡ accepted (only_if (has_text read) (take (text_length read) buffer))
unfolding only_if
taken_whole (Ok (Some count)) buffer e = refl
taken_whole (Ok None) buffer e = refl
taken_whole (Err TooLong) buffer e = let z : ◌≡◌ {A = Bool} true false = e in cc
taken_whole (Err Failed) buffer e = refl

-- without a text, the text is empty
pub text_or_empty : (read : ReadAnswer) (buffer : List ℕ)
    → get_or (only_if (has_text read) (take (text_length read) buffer)) [] ≡ take (text_length read) buffer
unfolding only_if
text_or_empty (Ok (Some count)) buffer = refl
text_or_empty (Ok None) buffer = refl
text_or_empty (Err error) buffer = refl

-- a part from the start on
pub from_start : (s : List ℕ) {part : List ℕ} {count n : ℕ} → count ≡ n → part ≡ take (count - 0) s → part ≡ take n s
from_start s e p = rw (← e) (rw sub-zero at p)

-- ---- from its contents

-- of a file that was read whole is taken what the definitions take of its contents
pub read_whole : {contents : Option (List ℕ)} {read : ReadAnswer} {buffer : List ℕ} → ReadWhole contents read buffer
    → read_text read buffer ≡ file_text contents
unfolding file_text missing_or file_fits
read_whole absent = sym (required 2 true _ refl refl)
read_whole (whole h e) = rw e (sym (required 2 _ _ (le-leb _ _ h) refl))
read_whole (long h) = sym (not_required 2 _ _ (lt-leb _ _ h))
