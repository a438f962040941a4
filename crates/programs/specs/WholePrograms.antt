-- What `combine`, `looks` and `call` print for files that were read whole: what the definitions say of the files' contents, each `none` if it is absent.
-- That the kit's `read` and `write` move these bytes, no contract can say.
use Rattle.std.specs.Prelude.{ℕ, take, List, ◌≡◌}
use Rattle.std.proofs.Math.Option.{Option}
use Rattle.definitions.specs.Answers.{call_program, called_file, combine_program, looks_program, printed_answer}
use Rattle.files.specs.FileTexts.{ReadAnswer, ReadWhole, read_text}
use Rattle.files.specs.Printing.{Printed}
use Rattle.programs.specs.Programs.{CombinePrinted, LooksPrinted}

-- from the contract of `combine_program`
abbrev pub CombineWhole : Type 0
CombineWhole =
    (cohort clip reference : Option (List ℕ)) (first second third : ReadAnswer) (r s t scratch scratch' list list' : List ℕ) (n : ℕ)
    → ReadWhole cohort first r → ReadWhole clip second s → ReadWhole reference third t
    → CombinePrinted (read_text first r) (read_text second s) (read_text third t) scratch scratch' list list' n
    → take n list' ≡ combine_program cohort clip reference

-- from the contract of `looks_program`
abbrev pub LooksWhole : Type 0
LooksWhole =
    (cohort clip reference contig : Option (List ℕ)) (first second third fourth : ReadAnswer) (r s t u scratch scratch' line line' : List ℕ) (n : ℕ)
    → ReadWhole cohort first r → ReadWhole clip second s → ReadWhole reference third t → ReadWhole contig fourth u
    → LooksPrinted (read_text first r) (read_text second s) (read_text third t) (read_text fourth u) scratch scratch' line line' n
    → take n line' ≡ looks_program cohort clip reference contig

-- from the contract of `call_program`
abbrev pub CallWhole : Type 0
CallWhole =
    (combined : Option (List ℕ)) (read : ReadAnswer) (s list list' : List ℕ) (n : ℕ) → ReadWhole combined read s
    → Printed (printed_answer (called_file (read_text read s))) list list' n → take n list' ≡ call_program combined
