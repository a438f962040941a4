-- What `look_up` prints, from the numbers that a call gave.
use Rattle.std.specs.Prelude.{ℕ, eqb, take, not, ◌≡◌}
use mathlib.Core.List.{List, ◌++◌, flat_map}
use Rattle.std.proofs.Math.Option.{Option}
use Rattle.definitions.specs.Answers.{look_up_files, look_up_program, printed_looked_up}
use Rattle.definitions.specs.Lines.{line}
use Rattle.definitions.specs.Lists.{only_if}
use Rattle.definitions.specs.LookUp.{no_record}
use Rattle.definitions.specs.Numbers.{decimal, written_or_missing}
use Rattle.files.specs.FileTexts.{ReadAnswer, ReadWhole, read_text}
use Rattle.files.specs.Printing.{Printed}

-- the record that a number of the output stands for
unfoldable pub record_option : ℕ → Option ℕ
record_option n = only_if (not (eqb n no_record)) n

-- a line for each number
unfoldable pub answer_lines : List ℕ → List ℕ
answer_lines = flat_map (λ n. line "record" (written_or_missing decimal (record_option n)))

-- they have no more bytes than this
abbrev pub most_bytes : ℕ
most_bytes = 32768

-- and behind them how many record groups were read
abbrev pub found_lines : List ℕ → ℕ → List ℕ
found_lines numbers groups = answer_lines numbers ++ line "groups" (decimal groups)

-- For files that were read whole, what is printed is what the definitions say of their contents, each `none` if it is absent: from the contract
-- of `look_up_program`.
abbrev pub LookUpWhole : Type 0
LookUpWhole =
    (combined places : Option (List ℕ)) (first second : ReadAnswer) (s t list list' : List ℕ) (n : ℕ)
    → ReadWhole combined first s → ReadWhole places second t
    → Printed (printed_looked_up (look_up_files (read_text first s) (read_text second t))) list list' n
    → take n list' ≡ look_up_program combined places
