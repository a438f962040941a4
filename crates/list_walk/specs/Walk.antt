-- What the header of a combined list says, and what a cursor over its record groups stands for.
use Rattle.std.specs.Prelude as std
use Rattle.std.specs.Prelude.{◌*◌, ◌+◌, ◌-◌, ◌<◌, ◌≤◌, suc, ℕ, drop, length, List, [], ◌∷◌, ◌≡◌}
use Rattle.std.proofs.Math.Option.{none}
use Rattle.answers.specs.Answered.{row_of}
use Rattle.answers.specs.declared.Refusal.{Refusal}
use Rattle.definitions.specs.Answers.{scratch_after}
use Rattle.definitions.specs.Checked.{Checked, ◌>>=◌, accepted, refused}
use Rattle.definitions.specs.Cohort.{samples_of}
use Rattle.definitions.specs.Limits.{max_samples}
use Rattle.definitions.specs.Lines.{Line, key_of, line_at, lines_of}
use Rattle.definitions.specs.ListReader.{record_read, with_missing}
use Rattle.definitions.specs.Lists.{groups_of}
use Rattle.definitions.specs.Numbers.{number}
use Rattle.definitions.specs.Records.{Record}
use Rattle.kv_text.specs.Lines.{LineTo, line_value}
use Rattle.list_reader.specs.RecordGroups.{PreviousOf, RecordTo, group_lines, record_from, record_group}
use Rattle.list_reader.specs.declared.PreviousRecord.{PreviousRecord}
use Rattle.list_reader.specs.declared.RecordPlace.{RecordPlace}
use Rattle.tables.specs.Tables.{names_in}
use Rattle.list_walk.specs.declared.ListCursor.{ListCursor}
use Rattle.list_walk.specs.declared.ListHeader.{ListHeader}

-- ---- the header

-- the names of a list's samples, and its figure `records`
pub record Heading : Type 0 where
  pub names : List (List ℕ)
  pub records : ℕ

unfoldable pub heading_of : List ℕ → Checked Heading
heading_of s = do
  names ← samples_of (lines_of s)
  records ← line_at (lines_of s) (suc (length names)) "records" number
  accepted (record { names = names; records = records })

-- the line `records` reads at an offset, and the text goes on behind it
pub record FigureTo (s : List ℕ) (samples at : ℕ) (names₀ names : List ℕ) (h : ListHeader) : Type 0 where
  pub end : ℕ
  pub line : LineTo s at (key_of "records") number h.records end
  pub samples_are : h.samples ≡ samples
  pub next_is : h.next ≡ end + 1
  pub same : names ≡ names₀

-- it does not, and the table is zero
pub record FigureRefused (s : List ℕ) (at : ℕ) (names₀ names : List ℕ) (row : ℕ) : Type 0 where
  pub row_is : row ≡ 1
  pub value : line_value s at (key_of "records") number ≡ none
  pub cleared : names ≡ scratch_after names₀

unfoldable pub FigureRead : List ℕ → ℕ → ℕ → List ℕ → List ℕ → std.Result ListHeader Refusal → Type 0
FigureRead s samples at names₀ names (std.Ok h) = FigureTo s samples at names₀ names h
FigureRead s samples at names₀ names (std.Err r) = FigureRefused s at names₀ names (row_of r)

-- the table has the names, and the record groups are the lines from `next` on; behind the names the table is as it was
pub record HeaderTo (s names₀ names : List ℕ) (h : ListHeader) : Type 0 where
  pub value : heading_of s ≡ accepted (record { names = names_in s names h.samples; records = h.records })
  pub groups : drop (2 + h.samples) (lines_of s) ≡ lines_of (drop h.next s)
  pub few : h.samples ≤ max_samples
  pub rest : drop (2 * h.samples) names ≡ drop (2 * h.samples) names₀

pub record HeaderRefused (s names₀ names : List ℕ) (row : ℕ) : Type 0 where
  pub value : heading_of s ≡ refused row
  pub cleared : names ≡ scratch_after names₀

unfoldable pub HeaderRead : List ℕ → List ℕ → List ℕ → std.Result ListHeader Refusal → Type 0
HeaderRead s names₀ names (std.Ok h) = HeaderTo s names₀ names h
HeaderRead s names₀ names (std.Err r) = HeaderRefused s names₀ names (row_of r)

-- ---- a cursor

-- the cursor before the first record group
abbrev pub start_of : ListHeader → ListCursor
start_of h = record { next = h.next; read = 0; previous = std.None }

-- the record groups at a cursor: as many as the header says and were not read, missing ones too, and those past its figure
unfoldable pub groups_at : List ℕ → ListHeader → ListCursor → List (List Line)
groups_at s h c = with_missing (h.records - c.read) (groups_of (group_lines h.samples) (lines_of (drop c.next s)))

-- the cursor stands behind these records, the nearest first
pub record StandsBehind (s : List ℕ) (before : List Record) (c : ListCursor) : Type 0 where
  pub read : c.read ≡ length before
  pub previous : PreviousOf s before c.previous

-- ---- a step

-- the record at a place, whose samples' data stands in the table
abbrev pub record_at : {s : List ℕ} {at samples : ℕ} {last : std.Option PreviousRecord} {rows₀ rows : List ℕ} {p : RecordPlace}
    → RecordTo s at samples last rows₀ rows p → Record
record_at {s} {p = p} to = record_from s p.contig p.pos p.end p.alleles to.sample_data

-- the group at the cursor is a record's, and the next cursor stands behind it
pub record RecordStep (s : List ℕ) (h : ListHeader) (c : ListCursor) (rows₀ rows : List ℕ) (p : RecordPlace) (c' : ListCursor) : Type 0 where
  pub to : RecordTo s c.next h.samples c.previous rows₀ rows p
  pub groups : groups_at s h c ≡ record_group s c.next h.samples ∷ groups_at s h c'
  pub value : (before : List Record) → StandsBehind s before c
      → record_read h.samples h.records before (record_group s c.next h.samples) ≡ accepted (record_at to)
  pub behind : (before : List Record) → StandsBehind s before c → StandsBehind s (record_at to ∷ before) c'
  pub forward : c.next < c'.next
  pub within : c'.next ≤ length s

-- a row refuses the group at the cursor
pub record RefusedStep (s : List ℕ) (h : ListHeader) (c : ListCursor) (rows₀ rows : List ℕ) (row : ℕ) : Type 0 where
  pub group : List Line
  pub later : List (List Line)
  pub groups : groups_at s h c ≡ group ∷ later
  pub value : (before : List Record) → StandsBehind s before c → record_read h.samples h.records before group ≡ refused row
  pub cleared : rows ≡ scratch_after rows₀

-- no group is left
pub record LastStep (s : List ℕ) (h : ListHeader) (c : ListCursor) (rows₀ rows : List ℕ) : Type 0 where
  pub groups : groups_at s h c ≡ []
  pub same : rows ≡ rows₀

unfoldable pub SteppedFrom : List ℕ → ListHeader → ListCursor → List ℕ → List ℕ → std.Result (std.Option (RecordPlace × ListCursor)) Refusal → Type 0
SteppedFrom s h c rows₀ rows (std.Ok (std.Some (p, c'))) = RecordStep s h c rows₀ rows p c'
SteppedFrom s h c rows₀ rows (std.Err r) = RefusedStep s h c rows₀ rows (row_of r)
SteppedFrom s h c rows₀ rows (std.Ok std.None) = LastStep s h c rows₀ rows
