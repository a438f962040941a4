-- What `combine`, `looks` and `call` make of the files that were read, up to the bytes that they print.
use Rattle.std.specs.Prelude.{ℕ, Bool, ◌||◌, List, [], ◌≡◌, Result, None, Some}
use Rattle.std.specs.Prelude as std
use Rattle.std.proofs.Math.Option.{Option, get_or}
use Rattle.answers.specs.Answered.{Answered, checked_of}
use Rattle.answers.specs.declared.Refusal.{Refusal}
use Rattle.definitions.specs.Answers.{asked_contig, combined_files, looks_files, printed_answer, printed_looks, scratch_after}
use Rattle.definitions.specs.Checked.{Checked, accepted, refused}
use Rattle.files.specs.FileTexts.{ReadAnswer, too_long}
use Rattle.files.specs.Printing.{Printed}
use Rattle.kv_text.specs.Fields.{between}
use Rattle.kv_text.specs.declared.Part.{Part}

-- one of three files is too long
abbrev pub any_too_long : ReadAnswer → ReadAnswer → ReadAnswer → Bool
any_too_long first second third = too_long first || (too_long second || too_long third)

module _ (cohort clip reference : Checked (Option (List ℕ))) (scratch scratch' list list' : List ℕ) where
  -- the answer is that of the three files, and so is what the list's buffer holds
  pub record FilesCombined (r : Result ℕ Refusal) : Type 0 where
    pub answered : Answered (combined_files cohort clip reference) list list' r
    pub cleared : scratch' ≡ scratch_after scratch

  -- the first r bytes of the buffer are what `combine` prints
  pub record CombinePrinted (r : ℕ) : Type 0 where
    pub printed : Printed (printed_answer (combined_files cohort clip reference)) list list' r
    pub cleared : scratch' ≡ scratch_after scratch

-- ---- looks

-- where the name stands that contig.kv asks for, or its text is refused with 1
abbrev pub ContigAsked : List ℕ → std.Option Part → Type 0
ContigAsked s (Some name) = asked_contig s ≡ accepted (between s name.at name.end)
ContigAsked s None = asked_contig s ≡ refused 1

module _ (cohort clip reference : Checked (Option (List ℕ))) where
  -- the answer is that of the three files and of this text for contig.kv, whether it is there or absent and empty
  pub record TextsLooked (asked scratch scratch' : List ℕ) (r : Result ℕ Refusal) : Type 0 where
    pub answered : (contig : Option (List ℕ)) → get_or contig [] ≡ asked → checked_of r ≡ looks_files cohort clip reference (accepted contig)
    pub cleared : scratch' ≡ scratch_after scratch

  -- the answer is that of the four files
  pub record FilesLooked (contig : Checked (Option (List ℕ))) (scratch scratch' : List ℕ) (r : Result ℕ Refusal) : Type 0 where
    pub answered : checked_of r ≡ looks_files cohort clip reference contig
    pub cleared : scratch' ≡ scratch_after scratch

  -- the first r bytes of the line are what `looks` prints
  pub record LooksPrinted (contig : Checked (Option (List ℕ))) (scratch scratch' line line' : List ℕ) (r : ℕ) : Type 0 where
    pub printed : Printed (printed_looks (looks_files cohort clip reference contig)) line line' r
    pub cleared : scratch' ≡ scratch_after scratch
