-- What it means that the first segments of the reference have rows in the table, and what else of the table is changed.
use Rattle.std.specs.Prelude.{◌*◌, ◌+◌, ◌<◌, ◌≤◌, ℕ, leb, get_or, length, cond, List, ◌++◌, map, ◌≡◌}
use Rattle.clip_and_reference.specs.Groups.{PlacedSegment, segments_placed, segments_read}
use Rattle.definitions.specs.ClipAndReference.{ReferenceSegment}
use Rattle.definitions.specs.Lists.{numbers_from}
use Rattle.tables.specs.Tables.{counts_at, segment_at, segment_column, segment_count, segments_at, segments_next, table_length}

-- the segment that a row stands for, and where the row says that its bases begin
unfoldable pub placed_at : List ℕ → List ℕ → ℕ → PlacedSegment
placed_at reference rows segment = record { segment = segment_at reference rows segment; bases_at = segment_column 3 rows segment }

-- So many segments, 1,024 at most, have rows: all segments of the text, with where their bases begin, are those of the rows and behind
-- them those from the offset `next` on.
pub record SegmentsInRows (reference rows : List ℕ) (count next : ℕ) : Type 0 where
  pub few : count ≤ 1024
  pub split : segments_placed reference 0 ≡ map (placed_at reference rows) (numbers_from 0 count) ++ segments_placed reference next

-- as many as the table says, and the others from where it says
abbrev pub SegmentsIndexed : List ℕ → List ℕ → Type 0
SegmentsIndexed reference rows = SegmentsInRows reference rows (segment_count rows) (segments_next rows)

-- how many of these segments get rows: all, but 1,024 at most
unfoldable pub rows_for : List ReferenceSegment → ℕ
rows_for segments = cond (leb (length segments) 1024) (length segments) 1024

-- ---- what of the table is changed

-- only the numbers from one place to before another
pub record OnlyBetween (from to : ℕ) (rows after : List ℕ) : Type 0 where
  pub long : length after ≡ length rows
  pub before : (j : ℕ) → j < from → get_or after j 0 ≡ get_or rows j 0
  pub behind : (j : ℕ) → to ≤ j → get_or after j 0 ≡ get_or rows j 0

-- only the numbers about segments: as many rows as it says, and the two numbers behind all rows
pub record SegmentsOnly (rows after : List ℕ) : Type 0 where
  pub long : length after ≡ length rows
  pub sites : (j : ℕ) → j < segments_at → get_or after j 0 ≡ get_or rows j 0
  pub unused : (j : ℕ) → segments_at + segment_count after * 5 ≤ j → j < counts_at → get_or after j 0 ≡ get_or rows j 0
  pub past : (j : ℕ) → table_length ≤ j → get_or after j 0 ≡ get_or rows j 0

-- a table after the segments got their rows; one that has no room for all rows is as it was
pub record SegmentsGiven (reference rows after : List ℕ) : Type 0 where
  pub only : SegmentsOnly rows after
  pub short : length rows < table_length → after ≡ rows
  pub indexed : table_length ≤ length rows → SegmentsIndexed reference after
  pub counted : table_length ≤ length rows → segment_count after ≡ rows_for (segments_read reference 0)

-- the rows of so many segments are stored, and nothing else is changed
pub record SegmentsStored (reference rows after : List ℕ) (count next : ℕ) : Type 0 where
  pub only : OnlyBetween segments_at (segments_at + count * 5) rows after
  pub in_rows : SegmentsInRows reference after count next
