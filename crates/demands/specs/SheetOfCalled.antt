-- Note 13: what a call of `call` wrote can be put on a sheet, by what that call promises alone.
use Rattle.std.specs.Prelude.{ℕ, length, take, ◌&&◌, List, ◌⊎◌, ◌≡◌, Ok}
use Rattle.answers.specs.Answered.{Answered}
use Rattle.definitions.specs.CalledList.{called_list, called_records}
use Rattle.definitions.specs.Checked.{◌>>=◌, ◌>>◌, accepted, refused, require, within}
use Rattle.definitions.specs.CombinedList.{fits}
use Rattle.definitions.specs.ListReader.{WrittenList, written_list}
use Rattle.definitions.specs.SelectionSheet.{called_read, markers_of, printed_sheet, selection_sheet}

-- the rows of a sheet: a text's length, the markers, its output
abbrev pub RowOfSheet : ℕ → Type 0
RowOfSheet row = (row ≡ 2) ⊎ (row ≡ 19) ⊎ (row ≡ 20) ⊎ (row ≡ 14)

-- For a call with any output (primed: what it holds at the end) that wrote n bytes: they read back as the names of the combined list and
-- the called records, and the sheet of any markers with any output is that of these records; only these four rows refuse it.
abbrev pub SheetOfCalled : Type 0
SheetOfCalled =
    (combined out out' : List ℕ) (n : ℕ) → Answered (called_list combined (length out)) out out' (Ok n)
    → (w : WrittenList) × (written_list combined ≡ accepted w)
    × (called_read (take n out') ≡ accepted (record { names = w.names; records = called_records w.records }))
    × ((markers : List ℕ) (sheet_length : ℕ) → selection_sheet markers (take n out') sheet_length ≡ (do
      require 2 (fits markers && fits (take n out'))
      ms ← markers_of markers
      within sheet_length (printed_sheet ms (record { names = w.names; records = called_records w.records }))))
    × ((markers : List ℕ) (sheet_length row : ℕ) → selection_sheet markers (take n out') sheet_length ≡ refused row → RowOfSheet row)
