-- What reading the header of cohort.kv finds: its first line, the `sample` lines one by one, and all of it.
use Rattle.std.specs.Prelude.{◌*◌, ◌+◌, ◌<◌, ◌≤◌, suc, ℕ, drop, get_or, length, List, [], map, ◌≡◌}
use Rattle.std.proofs.Math.Option.{none}
use Rattle.definitions.specs.Answers.{scratch_after}
use Rattle.definitions.specs.Checked.{accepted, read_each, refused}
use Rattle.definitions.specs.Cohort.{sample_name, samples_of}
use Rattle.definitions.specs.Limits.{max_samples}
use Rattle.definitions.specs.Lines.{Line, line_at, lines_of}
use Rattle.definitions.specs.Lists.{numbers_from}
use Rattle.definitions.specs.Numbers.{number}
use Rattle.kv_text.specs.Fields.{between}
use Rattle.kv_text.specs.Lines.{Behind}
use Rattle.tables.specs.Tables.{names_in}
use Rattle.answers.specs.Answered.{row_of}
use Rattle.answers.specs.declared.LoadError.{LoadError}
use Rattle.answers.specs.declared.LoadError.TheVariants.{NoRoom, Refused}
use Rattle.answers.specs.declared.Refusal.{Refusal}
use Rattle.kv_text.specs.declared.Part.{Part}
use Rattle.sample_names.specs.declared.SampleLines.{SampleLines}
use Rattle.std.specs.Prelude as std

-- ---- a `sample` line

-- the first line of a text from an offset on
abbrev pub first_line : List ℕ → ℕ → Line
first_line s at = get_or (lines_of (drop at s)) 0 none

-- behind these names it gives another, a part of the text, and the text goes on behind its LF
pub record SampleTo (s : List ℕ) (at : ℕ) (before : List (List ℕ)) (a e : ℕ) : Type 0 where
  pub value : sample_name before (first_line s at) ≡ accepted (between s a e)
  pub behind : Behind s at 1 (e + 1)
  pub within : e < length s

unfoldable pub SampleRead : List ℕ → ℕ → List (List ℕ) → std.Result Part Refusal → Type 0
SampleRead s at before (std.Ok name) = SampleTo s at before name.at name.end
SampleRead s at before (std.Err r) = sample_name before (first_line s at) ≡ refused (row_of r)

-- ---- all `sample` lines

-- so many lines of a text from an offset on, behind the first few
unfoldable pub lines_at : List ℕ → ℕ → ℕ → ℕ → List Line
lines_at s at first count = map (λ i. get_or (lines_of (drop at s)) i none) (numbers_from first count)

-- they give the names that the table has now, the text goes on at `next`, and behind the names the table is as it was
pub record NamesTo (s : List ℕ) (at count : ℕ) (table₀ table : List ℕ) (next : ℕ) : Type 0 where
  pub value : read_each sample_name [] (lines_at s at 0 count) ≡ accepted (names_in s table count)
  pub behind : Behind s at count next
  pub within : next ≤ length s
  pub rest : drop (2 * count) table ≡ drop (2 * count) table₀

unfoldable pub NamesRead : List ℕ → ℕ → ℕ → List ℕ → List ℕ → std.Result ℕ Refusal → Type 0
NamesRead s at count table₀ table (std.Ok next) = NamesTo s at count table₀ table next
NamesRead s at count table₀ table (std.Err r) = read_each sample_name [] (lines_at s at 0 count) ≡ refused (row_of r)

-- ---- the header

-- the first line gives so many samples, and the text goes on behind it
pub record CountTo (s : List ℕ) (count at : ℕ) : Type 0 where
  pub value : line_at (lines_of s) 0 "samples" number ≡ accepted count
  pub not_none : 0 < count
  pub few : count ≤ max_samples
  pub behind : Behind s 0 1 at
  pub within : at ≤ length s

unfoldable pub CountRead : List ℕ → std.Result SampleLines Refusal → Type 0
CountRead s (std.Ok lines) = CountTo s lines.count lines.next
CountRead s (std.Err r) = samples_of (lines_of s) ≡ refused (row_of r)

-- there is room, the header gives the names that the table has now, the text goes on at `next`, and behind the names the table is as it was
pub record HeaderTo (s table₀ table : List ℕ) (count next : ℕ) : Type 0 where
  pub room : 2 * max_samples ≤ length table₀
  pub value : samples_of (lines_of s) ≡ accepted (names_in s table count)
  pub not_none : 0 < count
  pub few : count ≤ max_samples
  pub behind : Behind s 0 (suc count) next
  pub within : next ≤ length s
  pub rest : drop (2 * count) table ≡ drop (2 * count) table₀

-- there is room, this row refuses the header, and the table is cleared
pub record HeaderRefused (s table₀ table : List ℕ) (row : ℕ) : Type 0 where
  pub room : 2 * max_samples ≤ length table₀
  pub value : samples_of (lines_of s) ≡ refused row
  pub cleared : table ≡ scratch_after table₀

-- there is no room, and the table is as it was
pub record HeaderUnread (table₀ table : List ℕ) : Type 0 where
  pub no_room : length table₀ < 2 * max_samples
  pub same : table ≡ table₀

-- what a table with room is told: the names that it has now, or why the header is refused
unfoldable pub LinesRead : List ℕ → List ℕ → List ℕ → std.Result SampleLines Refusal → Type 0
LinesRead s table₀ table (std.Ok lines) = HeaderTo s table₀ table lines.count lines.next
LinesRead s table₀ table (std.Err r) = samples_of (lines_of s) ≡ refused (row_of r)

unfoldable pub Header : List ℕ → List ℕ → List ℕ → std.Result SampleLines LoadError → Type 0
Header s table₀ table (std.Ok lines) = HeaderTo s table₀ table lines.count lines.next
Header s table₀ table (std.Err (Refused r)) = HeaderRefused s table₀ table (row_of r)
Header s table₀ table (std.Err NoRoom) = HeaderUnread table₀ table
