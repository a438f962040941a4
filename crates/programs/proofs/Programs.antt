-- The answers of `combine` and `call`, from what the library promises.
use Prim.Native.Nat.{ℕ}
use lib.ListN.{length, take}
use mathlib.Core.Bool.{Bool, false, true}
use mathlib.Core.List.{List}
use mathlib.Core.Option.{Option}
use mathlib.Core.Path.{◌∙◌, ◌≡◌}
use Rattle.answers.proofs.Answers.{answered_refused}
use Rattle.answers.specs.Answered.{Answered}
use Rattle.answers.specs.declared.Refusal.{Refusal}
use Rattle.answers.specs.declared.Refusal.TheVariants.{Size}
use Rattle.combine_gvcfs.specs.Combined.{Combined, texts_of}
use Rattle.definitions.specs.Answers.{called_file, combined_files, printed_answer, scratch_after}
use Rattle.definitions.specs.CalledList.{called_list}
use Rattle.definitions.specs.Checked.{Checked, accepted}
use Rattle.definitions.specs.CombinedList.{combined_list}
use Rattle.definitions.specs.Limits.{program_bytes, program_scratch}
use Rattle.files.proofs.FileTexts.{taken_long, taken_whole, text_or_empty}
use Rattle.files.proofs.Printing.{answered_printed}
use Rattle.files.specs.FileTexts.{ReadAnswer, has_text, read_text, text_length, too_long}
use Rattle.files.specs.Printing.{Printed, written_values}
use Rattle.laws.proofs.Checked.{then, then_refused}
use Rattle.programs.proofs.FilesTaken.{by_texts, taken_texts, texts_long, texts_taken}
use Rattle.programs.specs.Programs.{CombinePrinted, FilesCombined, any_too_long}
use Rattle.std.specs.Prelude.{Err, Result}

-- ---- combine

pub files_refused : (first second third : ReadAnswer) (r s t : List ℕ) {scratch scratch' list list' : List ℕ}
    → any_too_long first second third ≡ true → list' ≡ list → scratch' ≡ scratch_after scratch
    → FilesCombined (read_text first r) (read_text second s) (read_text third t) scratch scratch' list list' (Err Size)
files_refused first second third r s t e same cleared =
    let long = texts_long first second third r s t e in
    record { answered = answered_refused (by_texts _ _ _ ∙ then_refused _ _ long) same; cleared = cleared }

module _ (first second third : ReadAnswer) (r s t : List ℕ) where
  pub files_combined : {cohort clip reference scratch scratch' list list' : List ℕ} {clipped referenced : Bool} {o : Result ℕ Refusal}
      → any_too_long first second third ≡ false → cohort ≡ take (text_length first) r
      → clipped ≡ has_text second → clip ≡ take (text_length second) s → referenced ≡ has_text third → reference ≡ take (text_length third) t
      → length scratch ≡ program_scratch → length list ≡ program_bytes
      → Combined (texts_of cohort clipped clip referenced reference) scratch scratch' list list' o
      → FilesCombined (read_text first r) (read_text second s) (read_text third t) scratch scratch' list list' o
  files_combined {cohort} {clip} {reference} {scratch} {scratch'} {list} {list'} {clipped} {referenced} {o} e e₁ e₂ e₃ e₄ e₅ places bytes m =
      record { answered = rw same (record { answer = m.answer; output = m.output }); cleared = m.cleared }
    where
      whole : taken_texts (read_text first r) (read_text second s) (read_text third t)
          ≡ accepted (texts_of cohort clipped clip referenced reference)
      whole = rw (e₁, e₂, e₃, e₄, e₅) (texts_taken first second third r s t e)

      same : combined_files (read_text first r) (read_text second s) (read_text third t)
          ≡ combined_list (texts_of cohort clipped clip referenced reference) (length scratch) (length list)
      same = by_texts _ _ _ ∙ then _ _ whole (rw (places, bytes))

-- what it prints
pub combine_printed : (cohort clip reference : Checked (Option (List ℕ))) {scratch scratch' list list' list'' : List ℕ} (o : Result ℕ Refusal) {r : ℕ}
    → FilesCombined cohort clip reference scratch scratch' list list' o → Printed (printed_answer (written_values o list')) list' list'' r
    → CombinePrinted cohort clip reference scratch scratch' list list'' r
combine_printed cohort clip reference o m p =
    record { printed = answered_printed _ o m.answered p; cleared = m.cleared }

-- ---- call

pub file_refused : (read : ReadAnswer) (buffer : List ℕ) {list list' : List ℕ} → too_long read ≡ true → list' ≡ list
    → Answered (called_file (read_text read buffer)) list list' (Err Size)
unfolding called_file
file_refused read buffer e same = answered_refused (then_refused _ _ (taken_long read buffer e)) same

pub file_called : (read : ReadAnswer) (buffer : List ℕ) {s list list' : List ℕ} {o : Result ℕ Refusal} → too_long read ≡ false
    → s ≡ take (text_length read) buffer → length list ≡ program_bytes → Answered (called_list s (length list)) list list' o
    → Answered (called_file (read_text read buffer)) list list' o
unfolding called_file
file_called read buffer {s} {list} e text bytes m = rw same m
  where
    same : called_file (read_text read buffer) ≡ called_list s (length list)
    same = then _ _ (taken_whole read buffer e) (rw (text_or_empty read buffer, text, bytes))
