-- What the answers about REF of the record at a position stand for. Sites are numbers of a table's rows, in the order of samples.
use Rattle.std.specs.Prelude.{◌+◌, ◌-◌, ℕ, eqb, ltb, drop, length, take, cond, Result, Ok, Err}
use Rattle.std.specs.Prelude as std
use mathlib.Core.List.{List, [], ◌++◌, ◌∷◌, foldr, map}
use Rattle.std.proofs.Math.Option
use Rattle.std.proofs.Math.Option.{Option, none, or_else}
use Rattle.answers.specs.Answered.{row_of}
use Rattle.answers.specs.declared.Refusal.{Refusal}
use Rattle.clip_and_reference.specs.Groups.{PlacedSegment, segments_placed, segments_read}
use Rattle.definitions.specs.Alleles.{capital}
use Rattle.definitions.specs.Checked.{Checked, accepted, refused}
use Rattle.definitions.specs.ClipAndReference.{ReferenceSegment, segment_holds}
use Rattle.definitions.specs.Cohort.{Site}
use Rattle.definitions.specs.Lists.{filter_by, first_where, numbers_from, only_if}
use Rattle.definitions.specs.MergedRef.{site_ref, starts_at, unknown_base}
use Rattle.indexed_groups.specs.Indexed.{placed_at}
use Rattle.kv_text.specs.Fields.{between}
use Rattle.tables.specs.Tables.{column, part_at, segment_at, segment_count, segments_next, site_at}
use Rattle.merged_ref.specs.declared.Place.{Place}
use Rattle.merged_ref.specs.declared.Place.TheVariants as place
use Rattle.merged_ref.specs.declared.RefAt.{RefAt}
use Rattle.merged_ref.specs.declared.RefAt.TheVariants as answer

-- the sites with these numbers
abbrev pub sites_at : List ℕ → List ℕ → List ℕ → List Site
sites_at s rows found = map (site_at s rows) found

-- the REFs of the sites that start at the position
unfoldable pub starting_refs : ℕ → List Site → List (List ℕ)
starting_refs position covering = map site_ref (filter_by (starts_at position) covering)

-- the segment whose contig and letters, in either case, stand in these parts of the reference text
abbrev pub segment_by : List ℕ → ℕ → ℕ → ℕ → ℕ → ℕ → ReferenceSegment
segment_by reference contig_at contig_end first bases_at bases_end =
    record { contig = between reference contig_at contig_end; first = first; bases = map capital (between reference bases_at bases_end) }

-- the segments with rows
abbrev pub segments_in : List ℕ → List ℕ → List ReferenceSegment
segments_in reference rows = map (segment_at reference rows) (numbers_from 0 (segment_count rows))

-- the segments with rows, and behind them those of the groups from the stored offset on, up to the first faulty one
unfoldable pub reference_segments : List ℕ → List ℕ → List ReferenceSegment
reference_segments reference rows = segments_in reference rows ++ segments_read reference (segments_next rows)

-- ---- where the letter stands

-- a segment by its parts of the reference text, with where its bases begin
abbrev pub placed_by : List ℕ → ℕ → ℕ → ℕ → ℕ → ℕ → PlacedSegment
placed_by reference contig_at contig_end first bases_at bases_end =
    record { segment = segment_by reference contig_at contig_end first bases_at bases_end; bases_at = bases_at }

-- the segments with rows, each with where its row says that its bases begin
abbrev pub placed_in : List ℕ → List ℕ → List PlacedSegment
placed_in reference rows = map (placed_at reference rows) (numbers_from 0 (segment_count rows))

-- those of `reference_segments`, each with where its bases begin
unfoldable pub reference_placed : List ℕ → List ℕ → List PlacedSegment
reference_placed reference rows = placed_in reference rows ++ segments_placed reference (segments_next rows)

-- where a segment's letter at the position stands: as far behind the first base as the position is behind the first position
unfoldable pub place_in : ℕ → PlacedSegment → ℕ
place_in position p = p.bases_at + (position - p.segment.first)

-- where the letter of the first segment that holds the position stands in the reference text; none if none holds it
unfoldable pub letter_place : List ℕ → ℕ → List PlacedSegment → Option ℕ
letter_place contig position segments =
    Option.map (place_in position) (first_where (λ (p : PlacedSegment). segment_holds contig position p.segment) segments)

-- ---- REF

-- the site, or the longest so far if its REF is not shorter
unfoldable pub longer_of : List ℕ → List ℕ → ℕ → std.Option ℕ → std.Option ℕ
longer_of s rows site std.None = std.Some site
longer_of s rows site (std.Some other) =
    cond (ltb (length (part_at 9 10 s rows other)) (length (part_at 9 10 s rows site))) (std.Some site) (std.Some other)

-- the longest with one more site in front, if it starts at the position
unfoldable pub longer_site : List ℕ → List ℕ → ℕ → ℕ → std.Option ℕ → std.Option ℕ
longer_site s rows position site best = cond (starts_at position (site_at s rows site)) (longer_of s rows site best) best

-- which of these sites has the longest REF of those that start at the position: of equally long ones the last
unfoldable pub longest_site : List ℕ → List ℕ → ℕ → List ℕ → std.Option ℕ
longest_site s rows position = foldr (longer_site s rows position) std.None

-- ---- a letter of the sites' own REFs

-- where the letter of a row's site at the position stands in the cohort text: as far behind the beginning of REF as the position is
-- behind the start; none if REF does not reach so far
unfoldable pub reached_offset : List ℕ → List ℕ → ℕ → ℕ → Option ℕ
reached_offset s rows position site =
    only_if (ltb (position - column 2 rows site) (length (part_at 9 10 s rows site))) (column 9 rows site + (position - column 2 rows site))

-- where that of the first of these sites whose REF reaches the position stands
unfoldable pub reached_place : List ℕ → List ℕ → ℕ → List ℕ → Option ℕ
reached_place s rows position = foldr (λ site r. or_else (reached_offset s rows position site) r) none

-- ---- the parts handed on, as spelled

-- a letter by its place: one byte of the text that holds it, and none for nowhere
unfoldable pub letter_bytes : List ℕ → List ℕ → Place → List ℕ
letter_bytes reference s (place.Reference i) = take 1 (drop i reference)
letter_bytes reference s (place.Cohort i) = take 1 (drop i s)
letter_bytes reference s place.Nowhere = []

-- the part, or another if it is empty
unfoldable pub part_or : List ℕ → List ℕ → List ℕ
part_or other part = cond (eqb (length part) 0) other part

-- REF, with these bytes for a letter that stands nowhere
unfoldable pub ref_or : List ℕ → List ℕ → List ℕ → RefAt → List ℕ
ref_or unknown s reference (answer.Allele from to) = between s from to
ref_or unknown s reference (answer.Letter place) = part_or unknown (letter_bytes reference s place)

-- the same where it may be refused: nothing then
abbrev pub ref_or_none : List ℕ → List ℕ → List ℕ → std.Option RefAt → List ℕ
ref_or_none unknown s reference (std.Some at) = ref_or unknown s reference at
ref_or_none unknown s reference std.None = []

-- REF: `N` for a letter that stands nowhere
unfoldable pub ref_bytes : List ℕ → List ℕ → RefAt → List ℕ
ref_bytes s reference at = ref_or (unknown_base ∷ []) s reference at

-- REF, its letters as capitals, or the row that refuses it
unfoldable pub ref_answer : List ℕ → List ℕ → Result RefAt Refusal → Checked (List ℕ)
ref_answer s reference (Ok at) = accepted (map capital (ref_bytes s reference at))
ref_answer s reference (Err r) = refused (row_of r)
