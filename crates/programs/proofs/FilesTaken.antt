-- The texts of three files, by whether one of them is too long.
use Prim.Native.Nat.{ℕ}
use lib.ListN.{take}
use mathlib.Core.Bool.{Bool, ◌||◌, false, true}
use mathlib.Core.List.{List, []}
use mathlib.Core.Option.{Option, get_or, none, some}
use mathlib.Core.Path.{◌≡◌, refl}
use Rattle.combine_gvcfs.specs.Combined.{texts_of}
use Rattle.definitions.specs.Answers.{combined_files}
use Rattle.definitions.specs.Checked.{Checked, ◌>>=◌, accepted, refused}
use Rattle.definitions.specs.CombinedList.{Texts, combined_list}
use Rattle.definitions.specs.Limits.{program_bytes, program_scratch}
use Rattle.files.proofs.FileTexts.{taken_long, taken_whole, text_or_empty}
use Rattle.files.specs.FileTexts.{ReadAnswer, has_text, read_text, text_length, too_long}
use Rattle.files.specs.declared.ReadError.TheVariants.{Failed, TooLong}
use Rattle.programs.specs.Programs.{any_too_long}
use Rattle.std.specs.Prelude.{Err, None, Ok, Some}

-- one test or the other
or_left : (p q : Bool) → (p || q) ≡ false → p ≡ false
or_left true q e = e
or_left false q e = refl

or_right : (p q : Bool) → (p || q) ≡ false → q ≡ false
or_right true q e = let z : ◌≡◌ {A = Bool} true false = e in cc
or_right false q e = e

-- the texts of the three files, by what is taken of each
unfoldable pub taken_texts : Checked (Option (List ℕ)) → Checked (Option (List ℕ)) → Checked (Option (List ℕ)) → Checked Texts
taken_texts cohort clip reference = do
  c ← cohort
  l ← clip
  r ← reference
  accepted (record { cohort = get_or c []; clip = l; reference = r })

-- the list of the files is that of these texts
pub by_texts : (cohort clip reference : Checked (Option (List ℕ)))
    → combined_files cohort clip reference
    ≡ (taken_texts cohort clip reference >>= λ t. combined_list t program_scratch program_bytes)
unfolding combined_files taken_texts ◌>>=◌
by_texts (refused n) clip reference = refl
by_texts (accepted c) (refused n) reference = refl
by_texts (accepted c) (accepted l) (refused n) = refl
by_texts (accepted c) (accepted l) (accepted r) = refl

-- one of them is too long
third_long : (c l : Option (List ℕ)) (third : ReadAnswer) (buffer : List ℕ) → too_long third ≡ true
    → taken_texts (accepted c) (accepted l) (read_text third buffer) ≡ refused 2
unfolding taken_texts ◌>>=◌
third_long c l third buffer e = rw (taken_long third buffer e)

later_long : (c : Option (List ℕ)) (second third : ReadAnswer) (s t : List ℕ) → (too_long second || too_long third) ≡ true
    → taken_texts (accepted c) (read_text second s) (read_text third t) ≡ refused 2
unfolding taken_texts ◌>>=◌
later_long c (Ok (Some n)) third s t e = third_long c (some (take n s)) third t e
later_long c (Ok None) third s t e = third_long c none third t e
later_long c (Err TooLong) third s t e = refl
later_long c (Err Failed) third s t e = third_long c none third t e

pub texts_long : (first second third : ReadAnswer) (r s t : List ℕ) → any_too_long first second third ≡ true
    → taken_texts (read_text first r) (read_text second s) (read_text third t) ≡ refused 2
unfolding taken_texts ◌>>=◌
texts_long (Ok (Some n)) second third r s t e = later_long (some (take n r)) second third s t e
texts_long (Ok None) second third r s t e = later_long none second third s t e
texts_long (Err TooLong) second third r s t e = refl
texts_long (Err Failed) second third r s t e = later_long none second third s t e

-- none of them is
pub texts_taken : (first second third : ReadAnswer) (r s t : List ℕ) → any_too_long first second third ≡ false
    → taken_texts (read_text first r) (read_text second s) (read_text third t)
    ≡ accepted (texts_of (take (text_length first) r) (has_text second) (take (text_length second) s) (has_text third) (take (text_length third) t))
unfolding taken_texts ◌>>=◌
texts_taken first second third r s t e =
    let later = or_right (too_long first) (too_long second || too_long third) e in
    rw (
      taken_whole first r (or_left (too_long first) _ e),
      taken_whole second s (or_left (too_long second) _ later),
      taken_whole third t (or_right (too_long second) _ later),
      text_or_empty first r,
    )
