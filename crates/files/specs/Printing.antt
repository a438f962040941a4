-- What a program prints, in the buffer that its list was written to.
use Rattle.std.specs.Prelude.{ℕ, drop, length, take, List, ◌≡◌, Result, Ok, Err}
use Rattle.answers.specs.Answered.{row_of}
use Rattle.answers.specs.declared.Refusal.{Refusal}
use Rattle.definitions.specs.Answers.{printed_answer}
use Rattle.definitions.specs.Checked.{Checked, accepted, refused}

-- the values that a call wrote to its output, or the row that refuses it
abbrev pub written_values : Result ℕ Refusal → List ℕ → Checked (List ℕ)
written_values (Ok count) out = accepted (take count out)
written_values (Err refusal) out = refused (row_of refusal)

-- the first r bytes of the buffer are these, and what stands behind them is as it was
pub record Printed (bytes before after : List ℕ) (r : ℕ) : Type 0 where
  pub printed : take r after ≡ bytes
  pub count : r ≡ length bytes
  pub behind : drop r after ≡ drop r before

-- an answer is printed whose refusal turns into a number: the values that stand in the buffer, or that number
abbrev pub AnswerPrinted : {R : Type 0} → (R → ℕ → Type 0) → Result ℕ R → List ℕ → List ℕ → ℕ → Type 0
AnswerPrinted number (Ok count) before after r = Printed (printed_answer (accepted (take count before))) before after r
AnswerPrinted number (Err refusal) before after r = (row : ℕ) × number refusal row × Printed (printed_answer (refused row)) before after r
