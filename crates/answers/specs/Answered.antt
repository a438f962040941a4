-- What a call answers, as the definitions have it, and what its output holds at the end.
use Rattle.std.specs.Prelude.{ℕ, List, ◌≡◌, Result, Ok, Err}
use Rattle.definitions.specs.Answers.{output_after, written_of}
use Rattle.definitions.specs.Checked.{Checked, accepted, refused}
use Rattle.answers.specs.declared.Refusal.{Refusal}
use Rattle.answers.specs.declared.Refusal.TheVariants as refusal

-- the number of a refusal's row in the refusal table
abbrev pub row_of : Refusal → ℕ
row_of refusal.Spelling = 1
row_of refusal.Size = 2
row_of refusal.Sample = 3
row_of refusal.Position = 4
row_of refusal.Alleles = 5
row_of refusal.NonRefAbsent = 6
row_of refusal.End = 7
row_of refusal.Counts = 8
row_of refusal.ClipOrReference = 9
row_of refusal.Scratch = 10
row_of refusal.ReferenceLetter = 11
row_of refusal.RefConflict = 12
row_of refusal.TooManyAlleles = 13
row_of refusal.Output = 14
row_of refusal.Subset = 15
row_of refusal.Window = 17
row_of refusal.AskedPlaces = 18
row_of refusal.Marker = 19
row_of refusal.MarkerAfter = 20

-- what is given back, or the row that refuses the call
abbrev pub checked_of : {A : Type 0} → Result A Refusal → Checked A
checked_of (Ok a) = accepted a
checked_of (Err r) = refused (row_of r)

-- the answer is that of these values, or of the row that refuses them, and so is what the output holds at the end
pub record Answered {A : Type 0} (values : Checked (List A)) (out out' : List A) (r : Result ℕ Refusal) : Type 0 where
  pub answer : checked_of r ≡ written_of values
  pub output : out' ≡ output_after values out
