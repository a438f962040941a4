-- The tables that a call reads its texts into: the names by where they stand in the text, a row of numbers for each site, and behind
-- those of 4,096 sites a row for each of the first 1,024 reference segments.
use Rattle.std.specs.Prelude.{◌%◌, ◌*◌, ◌+◌, ◌/◌, ◌<◌, ℕ, eqb, leb, ltb, get_or, length, take, Bool, ◌&&◌, cond, List, ◌∷◌, map, ◌≡◌}
use Rattle.std.proofs.lemmas.List.Edits.{sets}
use Rattle.std.proofs.Math.Option.{Option, some}
use Rattle.definitions.specs.Alleles.{capital, is_block}
use Rattle.definitions.specs.Bytes.{comma, fields_of, same_bytes}
use Rattle.definitions.specs.ClipAndReference.{ReferenceSegment}
use Rattle.definitions.specs.Cohort.{Site}
use Rattle.definitions.specs.Lists.{index_where, numbers_from, only_if}
use Rattle.definitions.specs.Numbers.{max_number, number_list}
use Rattle.laws.proofs.AllelesAsRead.{ref_alts_as_read}
use Rattle.kv_text.specs.Fields.{between, first_numbers}

-- ---- names

-- the name with this number: two numbers say where it stands
unfoldable pub name_at : List ℕ → List ℕ → ℕ → List ℕ
name_at s names i = between s (get_or names (2 * i) 0) (get_or names (2 * i + 1) 0)

unfoldable pub names_in : List ℕ → List ℕ → ℕ → List (List ℕ)
names_in s names count = map (name_at s names) (numbers_from 0 count)

-- ---- sites

-- a row has so many numbers: 0 sample, 1 contig, by the number of the first site with that name, 2 start, 3 end, 4 whether the
-- site is a block, 5 GQ, 6 DP and MIN_DP, where the text has (7, 8) the contig, (9, 10) REF, (11, 12) the ALTs, and from 13 on AD and from 16 on PL
abbrev pub row_length : ℕ
row_length = 22

unfoldable pub column : ℕ → List ℕ → ℕ → ℕ
column k rows site = get_or rows (site * row_length + k) 0

-- the bytes from the offset in one column to just before that in another
unfoldable pub part_at : ℕ → ℕ → List ℕ → List ℕ → ℕ → List ℕ
part_at from to s rows site = between s (column from rows site) (column to rows site)

-- GQ, DP or MIN_DP as a number of the table: one past the greatest of a text is missing
unfoldable pub code_option : ℕ → Option ℕ
code_option c = only_if (leb c max_number) c

-- ---- a list of numbers in a row, from a column on

-- One number of a table holds two of a list, each below 2^32: the one at an even place of the list and the one behind it.
unfoldable pub half_at : ℕ → ℕ → ℕ
half_at i n = cond (eqb (i % 2) 0) (n % 4294967296) (n / 4294967296)

-- DP and MIN_DP share a number of the row in the same way
unfoldable pub depth_at : ℕ → List ℕ → ℕ → Option ℕ
depth_at half rows site = code_option (half_at half (column 6 rows site))

abbrev pub dp_at : List ℕ → ℕ → Option ℕ
dp_at = depth_at 0

abbrev pub min_dp_at : List ℕ → ℕ → Option ℕ
min_dp_at = depth_at 1

-- the numbers that stand in the row: the column has how many they are, and those behind it hold two each
unfoldable pub stored_number : ℕ → List ℕ → ℕ → ℕ → ℕ
stored_number k rows site i = half_at i (column (k + 1 + i / 2) rows site)

unfoldable pub stored_numbers : ℕ → List ℕ → ℕ → List ℕ
stored_numbers k rows site = map (stored_number k rows site) (numbers_from 0 (column k rows site))

-- so many numbers stand in a row that has room for `most`; else the two columns behind theirs say where the text has them
unfoldable pub is_stored : ℕ → ℕ → Bool
is_stored most count = ltb 0 count && leb count most

-- the list; it is missing if its part of the text is none
unfoldable pub numbers_at : ℕ → ℕ → List ℕ → List ℕ → ℕ → Option (List ℕ)
numbers_at k most s rows site =
    cond (is_stored most (column k rows site)) (some (stored_numbers k rows site)) (number_list (part_at (k + 1) (k + 2) s rows site))

-- the same, and of a faulty list in the text the numbers before the fault
unfoldable pub first_numbers_at : ℕ → ℕ → List ℕ → List ℕ → ℕ → List ℕ
first_numbers_at k most s rows site =
    cond (is_stored most (column k rows site)) (stored_numbers k rows site) (first_numbers (fields_of comma (part_at (k + 1) (k + 2) s rows site)))

-- AD of up to 4 numbers, and PL of up to 10, stand in the row: those of a site with up to 4 alleles
abbrev pub ad_at : List ℕ → List ℕ → ℕ → Option (List ℕ)
ad_at = numbers_at 13 4

abbrev pub pl_at : List ℕ → List ℕ → ℕ → Option (List ℕ)
pl_at = numbers_at 16 10

-- what is stored of a list in its column and so many behind it
unfoldable pub word_of : List ℕ → ℕ → ℕ
word_of numbers j = get_or numbers (2 * j) 0 + get_or numbers (2 * j + 1) 0 * 4294967296

unfoldable pub list_columns : ℕ → List ℕ → List ℕ
list_columns words numbers = length numbers ∷ map (word_of numbers) (numbers_from 0 words)

-- a table in which a list's column, at this offset, got the first so many numbers, if they have room; else it stays as it was
unfoldable pub with_numbers : ℕ → ℕ → List ℕ → ℕ → List ℕ → List ℕ
with_numbers at words numbers count rows =
    cond (is_stored (length numbers) count) (sets rows at (list_columns words (take count numbers))) rows

-- ---- the site of a row

-- the site that a row stands for: letters in either case are read as capitals, and the row keeps where the text has them
unfoldable pub site_at : List ℕ → List ℕ → ℕ → Site
site_at s rows site = record {
  sample = column 0 rows site;
  contig = part_at 7 8 s rows site;
  start = column 2 rows site;
  end = column 3 rows site;
  alleles = ref_alts_as_read (part_at 9 10 s rows site) (fields_of comma (part_at 11 12 s rows site));
  gq = code_option (column 5 rows site);
  dp = dp_at rows site;
  mindp = min_dp_at rows site;
  ad = ad_at s rows site;
  pl = pl_at s rows site;
}

-- the rows of a table stand for these sites
pub record SiteRows (s rows : List ℕ) (sites : List Site) : Type 0 where
  pub read : sites ≡ map (site_at s rows) (numbers_from 0 (length sites))
  pub contigs : (site : ℕ) → site < length sites
      → index_where (same_bytes (part_at 7 8 s rows site)) (map (λ (x : Site). x.contig) sites) ≡ some (column 1 rows site)
  pub blocks : (site : ℕ) → site < length sites → eqb (column 4 rows site) 1 ≡ is_block (site_at s rows site).alleles

-- ---- reference segments

-- 90,112 numbers are the rows of 4,096 sites. Behind them stand 1,024 rows of 5 for segments; then how many segments have rows, and
-- the offset at which the others go on in their text.
abbrev pub segments_at : ℕ
segments_at = 90112

abbrev pub counts_at : ℕ
counts_at = 95232

abbrev pub table_length : ℕ
table_length = 95234

-- a segment's row: where the reference text has (0, 1) the contig, 2 the first position, where it has (3, 4) the bases
unfoldable pub segment_column : ℕ → List ℕ → ℕ → ℕ
segment_column k rows segment = get_or rows (segments_at + segment * 5 + k) 0

-- how many have rows
abbrev pub segment_count : List ℕ → ℕ
segment_count rows = get_or rows counts_at 0

-- where those without rows begin
abbrev pub segments_next : List ℕ → ℕ
segments_next rows = get_or rows (counts_at + 1) 0

-- the segment that a row stands for, its bases read as capitals
unfoldable pub segment_at : List ℕ → List ℕ → ℕ → ReferenceSegment
segment_at reference rows segment = record {
  contig = between reference (segment_column 0 rows segment) (segment_column 1 rows segment);
  first = segment_column 2 rows segment;
  bases = map capital (between reference (segment_column 3 rows segment) (segment_column 4 rows segment));
}
