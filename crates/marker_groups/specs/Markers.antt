-- What reading the marker file finds: the lines of a marker, and the table of all.
use Rattle.std.specs.Prelude.{◌*◌, ◌+◌, ◌-◌, ◌<◌, ◌≤◌, ℕ, eqb, drop, get_or, length, take, cond, false, true, List, [], ◌∷◌, map, reverse, ◌≡◌}
use Rattle.answers.specs.Answered as answers
use Rattle.answers.specs.declared.LoadError.{LoadError}
use Rattle.answers.specs.declared.LoadError.TheVariants.{NoRoom, Refused}
use Rattle.answers.specs.declared.Refusal.{Refusal}
use Rattle.definitions.specs.Alleles.{Allele}
use Rattle.definitions.specs.Answers.{scratch_after}
use Rattle.definitions.specs.Bytes.{comma, fields_of, same_bytes, text}
use Rattle.definitions.specs.Checked.{Checked, accepted, refused}
use Rattle.definitions.specs.Lines.{Line, line_at, lines_of}
use Rattle.definitions.specs.Lists.{all_of, any_of, numbers_from}
use Rattle.definitions.specs.Numbers.{max_number, name}
use Rattle.definitions.specs.SelectionSheet.{Marker, marker_lines, marker_of, markers_of, max_markers, names_after, number_in, wanted_allele}
use Rattle.kv_text.specs.Fields.{between}
use Rattle.kv_text.specs.Lines.{Behind, LineFound, read_to, unread}
use Rattle.kv_text.specs.declared.Part.{Part}
use Rattle.laws.proofs.AllelesAsRead.{allele_as_read}
use Rattle.laws.proofs.Every.{Every}
use Rattle.site_groups.specs.SiteGroups.{bytes_of}
use Rattle.marker_groups.specs.declared.MarkerLines.{MarkerLines}
use Rattle.std.specs.Prelude as std

-- ---- the answers about a line

-- the wanted allele that stands there
abbrev pub allele_found : List ℕ → std.Option Part → LineFound Allele
allele_found s (std.Some part) = read_to (allele_as_read (between s part.at part.end)) part.end
allele_found s std.None = unread

-- the names of a list; `.` has none
unfoldable pub after_names : List ℕ → List (List ℕ)
after_names list = cond (same_bytes list (text ".")) [] (fields_of comma list)

abbrev pub after_found : List ℕ → std.Option Part → LineFound (List (List ℕ))
after_found s (std.Some part) = read_to (after_names (between s part.at part.end)) part.end
after_found s std.None = unread

-- ---- the lines of a marker

-- the lines of the marker group at an offset
abbrev pub marker_group : List ℕ → ℕ → List Line
marker_group s at = take marker_lines (lines_of (drop at s))

pub record LinesTo (s : List ℕ) (at : ℕ) (l : MarkerLines) : Type 0 where
  pub marker : line_at (marker_group s at) 0 "marker" name ≡ accepted (bytes_of s l.name)
  pub contig : line_at (marker_group s at) 1 "contig" name ≡ accepted (bytes_of s l.contig)
  pub pos : line_at (marker_group s at) 2 "pos" (number_in 1 max_number) ≡ accepted l.pos
  pub allele : line_at (marker_group s at) 3 "allele" wanted_allele ≡ accepted (allele_as_read (bytes_of s l.allele))
  pub weight : line_at (marker_group s at) 4 "weight" (number_in 1 100) ≡ accepted l.weight
  pub after : line_at (marker_group s at) 5 "after" names_after ≡ accepted (after_names (bytes_of s l.after))
  pub few : length (after_names (bytes_of s l.after)) ≤ 4
  pub behind : Behind s at marker_lines l.next
  pub forward : at < l.next
  pub within : l.next ≤ length s

-- or row 19 refuses the group, whatever stands before it
unfoldable pub LinesRead : List ℕ → ℕ → std.Option MarkerLines → Type 0
LinesRead s at (std.Some l) = LinesTo s at l
LinesRead s at std.None = (before : List Marker) → marker_of before (marker_group s at) ≡ refused 19

-- ---- the table

-- A row has 13 numbers: where the text has (0, 1) the name and (2, 3) the contig, 4 the position, where it has (5, 6) the allele, 7 the
-- weight, 8 how many markers `after` names, and from 9 on their numbers.
unfoldable pub column : ℕ → List ℕ → ℕ → ℕ
column k rows marker = get_or rows (marker * 13 + k) 0

-- the bytes from the offset in one column to just before that in another
unfoldable pub part_at : ℕ → ℕ → List ℕ → List ℕ → ℕ → List ℕ
part_at from to s rows marker = between s (column from rows marker) (column to rows marker)

abbrev pub name_of : List ℕ → List ℕ → ℕ → List ℕ
name_of = part_at 0 1

-- the names of the first so many markers
unfoldable pub names_in : List ℕ → List ℕ → ℕ → List (List ℕ)
names_in s rows count = map (name_of s rows) (numbers_from 0 count)

-- the numbers of the markers that `after` names
unfoldable pub after_at : List ℕ → ℕ → List ℕ
after_at rows marker = map (λ j. column (9 + j) rows marker) (numbers_from 0 (column 8 rows marker))

-- the marker that a row stands for
unfoldable pub marker_at : List ℕ → List ℕ → ℕ → Marker
marker_at s rows marker = record {
  marker = name_of s rows marker;
  contig = part_at 2 3 s rows marker;
  pos = column 4 rows marker;
  allele = allele_as_read (part_at 5 6 s rows marker);
  weight = column 7 rows marker;
  after = map (name_of s rows) (after_at rows marker);
}

unfoldable pub markers_in : List ℕ → List ℕ → ℕ → List Marker
markers_in s rows count = map (marker_at s rows) (numbers_from 0 count)

-- the row that is stored for a marker
abbrev pub row_of : MarkerLines → ℕ → List ℕ → List ℕ
row_of l names numbers =
    l.name.at ∷ l.name.end ∷ l.contig.at ∷ l.contig.end ∷ l.pos ∷ l.allele.at ∷ l.allele.end ∷ l.weight ∷ names
    ∷ get_or numbers 0 0 ∷ get_or numbers 1 0 ∷ get_or numbers 2 0 ∷ get_or numbers 3 0 ∷ []

-- ---- `after`

-- the first numbers are those of the markers that the list names
pub record AftersTo (s rows : List ℕ) (count : ℕ) (list numbers : List ℕ) (names : ℕ) : Type 0 where
  pub count_is : names ≡ length (after_names list)
  pub named : map (λ j. name_of s rows (get_or numbers j 0)) (numbers_from 0 names) ≡ after_names list
  pub all : all_of (λ n. any_of (same_bytes n) (names_in s rows count)) (after_names list) ≡ true
  pub below : Every (λ j. get_or numbers j 0 < count) (numbers_from 0 names)

-- or some name is no marker's
unfoldable pub AftersFound : List ℕ → List ℕ → ℕ → List ℕ → List ℕ → std.Option ℕ → Type 0
AftersFound s rows count list numbers (std.Some names) = AftersTo s rows count list numbers names
AftersFound s rows count list numbers std.None = all_of (λ n. any_of (same_bytes n) (names_in s rows count)) (after_names list) ≡ false

-- ---- the markers

-- `after` names up to four markers, all of them before
pub record RowsSound (rows : List ℕ) (count : ℕ) : Type 0 where
  pub few : count ≤ max_markers
  pub after_few : (marker : ℕ) → marker < count → column 8 rows marker ≤ 4
  pub below : (marker : ℕ) → marker < count → Every (λ i. i < marker) (after_at rows marker)

-- the group gives a marker behind those of the table, which the table then has too; behind it the table is as it was
pub record MarkerTo (s : List ℕ) (at : ℕ) (rows₀ rows : List ℕ) (count next : ℕ) : Type 0 where
  pub value : marker_of (reverse (markers_in s rows₀ count)) (marker_group s at) ≡ accepted (marker_at s rows count)
  pub table : RowsSound rows₀ count → markers_in s rows count ≡ markers_in s rows₀ count
  pub sound : RowsSound rows₀ count → RowsSound rows (count + 1)
  pub rest : drop ((count + 1) * 13) rows ≡ drop ((count + 1) * 13) rows₀
  pub behind : Behind s at marker_lines next
  pub forward : at < next
  pub within : next ≤ length s

unfoldable pub MarkerRead : List ℕ → ℕ → List ℕ → List ℕ → ℕ → std.Result ℕ Refusal → Type 0
MarkerRead s at rows₀ rows count (std.Ok next) = MarkerTo s at rows₀ rows count next
MarkerRead s at rows₀ rows count (std.Err r) = marker_of (reverse (markers_in s rows₀ count)) (marker_group s at) ≡ refused (answers.row_of r)

-- the table has the markers of the text, and behind them it is as it was
pub record MarkersTo (s rows₀ rows : List ℕ) (count : ℕ) : Type 0 where
  pub value : markers_of s ≡ accepted (markers_in s rows count)
  pub sound : RowsSound rows count
  pub rest : drop (count * 13) rows ≡ drop (count * 13) rows₀

-- or a row refuses the text, and the table is zero
pub record MarkersRefused (s rows₀ rows : List ℕ) (row : ℕ) : Type 0 where
  pub value : markers_of s ≡ refused row
  pub cleared : rows ≡ scratch_after rows₀

-- or there is no room, and the table is as it was
pub record MarkersUnread (rows₀ rows : List ℕ) : Type 0 where
  pub no_room : length rows₀ < 6500
  pub same : rows ≡ rows₀

unfoldable pub MarkersRead : List ℕ → List ℕ → List ℕ → std.Result ℕ LoadError → Type 0
MarkersRead s rows₀ rows (std.Ok count) = MarkersTo s rows₀ rows count
MarkersRead s rows₀ rows (std.Err (Refused r)) = MarkersRefused s rows₀ rows (answers.row_of r)
MarkersRead s rows₀ rows (std.Err NoRoom) = MarkersUnread rows₀ rows
