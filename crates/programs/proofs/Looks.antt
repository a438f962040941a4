-- The answers of `looks`, from what the library promises.
use Prim.Native.Nat.{◌+◌, ◌<◌, ◌≤◌, ℕ}
use borrow.Author.Tests.{eq-eqb, ne_eqb}
use lib.ListN.{drop, length, take}
use mathlib.Core.Bool.{Bool, false, true}
use mathlib.Core.List.{List, []}
use mathlib.Core.Option.{Option, get_or, none}
use mathlib.Core.Path.{◌∙◌, ◌≡◌, ap, refl, sym}
use native.Mathlib.Decide.{dec_lt}
use native.Mathlib.Omega.{arith}
use Rattle.answers.specs.Answered.{checked_of}
use Rattle.answers.specs.declared.Refusal.{Refusal}
use Rattle.answers.specs.declared.Refusal.TheVariants.{Size, Spelling}
use Rattle.combine_gvcfs.specs.Combined.{texts_of}
use Rattle.definitions.specs.Answers.{asked_contig, looks_files, printed_looks, scratch_after}
use Rattle.definitions.specs.Bytes.{line_feed}
use Rattle.definitions.specs.Checked.{Checked, ◌>>=◌, accepted, or_refuse, refused}
use Rattle.definitions.specs.Limits.{program_scratch}
use Rattle.definitions.specs.Lines.{key_of, line_at, lines_of}
use Rattle.definitions.specs.Looks.{looks_of}
use Rattle.definitions.specs.Numbers.{name}
use Rattle.files.proofs.FileTexts.{taken_long, taken_whole, text_or_empty}
use Rattle.files.specs.FileTexts.{ReadAnswer, has_text, read_text, text_length, too_long}
use Rattle.files.specs.Printing.{Printed}
use Rattle.kv_text.proofs.Lines.{the_lines, unended}
use Rattle.kv_text.specs.Fields.{field_length}
use Rattle.kv_text.specs.Lines.{LineTo, line_end, line_value}
use Rattle.laws.proofs.Checked.{not_required, required, then, then_refused}
use Rattle.laws.proofs.Lines.{lines_end}
use Rattle.programs.proofs.FilesTaken.{taken_texts, texts_long, texts_taken}
use Rattle.programs.specs.Programs.{FilesLooked, LooksPrinted, TextsLooked, any_too_long}
use Rattle.search_looks.specs.Looked.{LooksAnswered}
use Rattle.std.specs.Prelude.{Err, Result}

-- ---- contig.kv

module _ (s : List ℕ) where
  -- its first line
  first_line_lem : line_at (lines_of s) 0 "contig" name ≡ or_refuse 1 (line_value s 0 (key_of "contig") name)
  unfolding line_at line_value
  first_line_lem = refl

  pub not_named : line_value s 0 (key_of "contig") name ≡ none → asked_contig s ≡ refused 1
  unfolding asked_contig or_refuse
  not_named e = then_refused _ _ (first_line_lem ∙ ap (or_refuse 1) e)

  -- a text that goes on has another line
  some_line : (at : ℕ) → at < length s → 1 ≤ length (lines_of (drop at s))
  some_line at h = go (dec_lt (at + field_length 10 (drop at s)) (length s))
    where
      go : Dec (at + field_length 10 (drop at s) < length s) → 1 ≤ length (lines_of (drop at s))
      go (yes l) = omega (arith, ap length (the_lines s at _ refl l))
      go (no l) = omega (arith, ap length (unended s at _ refl h (omega arith)))

  module _ {contig : List ℕ} {e : ℕ} (l : LineTo s 0 (key_of "contig") name contig e) where
    named : line_at (lines_of s) 0 "contig" name ≡ accepted contig
    unfolding or_refuse
    named = first_line_lem ∙ ap (or_refuse 1) l.value

    all_lines : length (lines_of s) ≡ 1 + length (lines_of (drop (e + 1) s))
    unfolding line_end line_feed
    all_lines = omega (arith, ap length (the_lines s 0 e l.ends l.within))

    pub one_line : length s ≤ e + 1 → asked_contig s ≡ accepted contig
    unfolding asked_contig
    one_line h = then _ _ named
        (required 1 _ _ (eq-eqb (length (lines_of s)) 1 (omega (arith, all_lines, ap length (lines_end s (e + 1) h)))) refl)

    pub more_lines : e + 1 < length s → asked_contig s ≡ refused 1
    unfolding asked_contig
    more_lines h = then _ _ named
        (not_required 1 _ _ (ne_eqb (length (lines_of s)) 1 (λ z. omega (arith, all_lines, some_line (e + 1) h))))

-- ---- the answer

-- the figure of the files is that of the texts and of the contig
by_texts : (cohort clip reference asked : Checked (Option (List ℕ)))
    → looks_files cohort clip reference asked
    ≡ (taken_texts cohort clip reference >>= λ t. asked >>= λ a. asked_contig (get_or a []) >>= λ contig. looks_of t program_scratch contig)
unfolding looks_files taken_texts ◌>>=◌
by_texts (refused n) clip reference asked = refl
by_texts (accepted c) (refused n) reference asked = refl
by_texts (accepted c) (accepted l) (refused n) asked = refl
by_texts (accepted c) (accepted l) (accepted r) asked = refl

module _ (first second third : ReadAnswer) (r s t : List ℕ) where
  -- one of the three texts is too long
  pub texts_refused : (asked : Checked (Option (List ℕ))) {scratch scratch' : List ℕ} → any_too_long first second third ≡ true
      → scratch' ≡ scratch_after scratch
      → FilesLooked (read_text first r) (read_text second s) (read_text third t) asked scratch scratch' (Err Size)
  texts_refused asked e cleared =
      record { answered = sym (by_texts _ _ _ asked ∙ then_refused _ _ (texts_long first second third r s t e)); cleared = cleared }

  module _ (none-long : any_too_long first second third ≡ false) where
    -- contig.kv is
    pub asked_long : (fourth : ReadAnswer) (u : List ℕ) {scratch scratch' : List ℕ} → too_long fourth ≡ true → scratch' ≡ scratch_after scratch
        → FilesLooked (read_text first r) (read_text second s) (read_text third t) (read_text fourth u) scratch scratch' (Err Size)
    asked_long fourth u e cleared =
        let taken = texts_taken first second third r s t none-long in
        record { answered = sym (by_texts _ _ _ _ ∙ then _ _ taken (then_refused _ _ (taken_long fourth u e))); cleared = cleared }

    -- it is out of order
    pub asked_refused : {asked scratch scratch' : List ℕ} → asked_contig asked ≡ refused 1 → scratch' ≡ scratch_after scratch
        → TextsLooked (read_text first r) (read_text second s) (read_text third t) asked scratch scratch' (Err Spelling)
    asked_refused e cleared =
        let taken = texts_taken first second third r s t none-long in
        record {
          answered = λ contig same. sym (by_texts _ _ _ _ ∙ then _ _ taken (then _ _ refl (then_refused _ _ (ap asked_contig same ∙ e))));
          cleared = cleared;
        }

    pub asked_looked : {asked name cohort clip reference scratch scratch' : List ℕ} {clipped referenced : Bool} {o : Result ℕ Refusal}
        → asked_contig asked ≡ accepted name → cohort ≡ take (text_length first) r
        → clipped ≡ has_text second → clip ≡ take (text_length second) s → referenced ≡ has_text third → reference ≡ take (text_length third) t
        → length scratch ≡ program_scratch → LooksAnswered (texts_of cohort clipped clip referenced reference) name scratch scratch' o
        → TextsLooked (read_text first r) (read_text second s) (read_text third t) asked scratch scratch' o
    asked_looked {asked} {name} {cohort} {clip} {reference} {scratch} {scratch'} {clipped} {referenced} e e₁ e₂ e₃ e₄ e₅ places a =
        let taken : taken_texts (read_text first r) (read_text second s) (read_text third t)
        ≡ accepted (texts_of cohort clipped clip referenced reference) =
        rw (e₁, e₂, e₃, e₄, e₅) (texts_taken first second third r s t none-long) in
        record {
          answered = λ contig same.
              a.answer ∙ sym (by_texts _ _ _ _ ∙ then _ _ taken (then _ _ refl (then _ _ (ap asked_contig same ∙ e) (rw places))));
          cleared = a.cleared;
        }

-- the text of contig.kv is what was read of it
pub files_looked : (cohort clip reference : Checked (Option (List ℕ))) (fourth : ReadAnswer) (u : List ℕ) {asked scratch scratch' : List ℕ} {o : Result ℕ Refusal}
    → too_long fourth ≡ false → asked ≡ take (text_length fourth) u → TextsLooked cohort clip reference asked scratch scratch' o
    → FilesLooked cohort clip reference (read_text fourth u) scratch scratch' o
files_looked cohort clip reference fourth u e text l =
    record {
      answered = rw (taken_whole fourth u e) (l.answered _ (text_or_empty fourth u ∙ sym text));
      cleared = l.cleared;
    }

-- what is printed
pub looks_printed : (cohort clip reference contig : Checked (Option (List ℕ))) {scratch scratch' line line' : List ℕ} (o : Result ℕ Refusal) {n : ℕ}
    → FilesLooked cohort clip reference contig scratch scratch' o → Printed (printed_looks (checked_of o)) line line' n
    → LooksPrinted cohort clip reference contig scratch scratch' line line' n
looks_printed cohort clip reference contig {line = line} {line' = line'} o {n} l p =
    record { printed = rw l.answered at p; cleared = l.cleared }
