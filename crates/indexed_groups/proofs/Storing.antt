-- The loop that gives segments their rows, and the two numbers stored behind them.
use Prim.Native.Nat.{◌*◌, ◌+◌, ◌<◌, ◌≤◌, ℕ}
use borrow.Author.Tests.{le-leb, leb-true}
use lib.Dec.{leb}
use lib.ListN.{get_or-append, get_or, length, length-append, length-map, length-set, set}
use lib.Seq.{get_or-set_other, get_or-set_same, length-sets, sets}
use mathlib.Core.Bool.{Bool, cond, false, true}
use mathlib.Core.List.{List, [], ◌++◌, ◌∷◌, append_assoc, map, map-append, map-map}
use mathlib.Core.Path.{◌∙◌, ◌≡◌, ap, refl, sym}
use native.Mathlib.Nat.{zero-add}
use native.Mathlib.Omega.{arith}
use Rattle.clip_and_reference.proofs.Places.{bases_at_lem, placed_count, placed_group, placed_segments}
use Rattle.clip_and_reference.specs.Groups.{GroupTo, PlacedSegment, ValuePart, bases_start, segments_placed, segments_read}
use Rattle.definitions.specs.Alleles.{capital}
use Rattle.definitions.specs.ClipAndReference.{segment_of}
use Rattle.definitions.specs.Lines.{key_of}
use Rattle.definitions.specs.Lists.{numbers_from}
use Rattle.kv_text.specs.Fields.{between}
use Rattle.kv_text.specs.Lines.{line_start}
use Rattle.laws.proofs.Members.{length_numbers}
use Rattle.tables.proofs.Stored.{get_before, get_behind, get_here, map_numbers, map_same, one_more}
use Rattle.tables.specs.Tables.{segment_at, segment_column, segment_count, segments_next}
use Rattle.indexed_groups.specs.Indexed.{SegmentsGiven, SegmentsInRows, SegmentsIndexed, SegmentsOnly, SegmentsStored, placed_at, rows_for}

-- ---- the loop

pub none_stored : (reference rows : List ℕ) → SegmentsStored reference rows rows 0 0
unfolding numbers_from
none_stored reference rows = record {
  only = record { long = refl; before = λ j h. refl; behind = λ j h. refl };
  in_rows = record { few = omega arith; split = refl };
}

-- one row more
module _ (reference rows : List ℕ) (count contig_at contig_end first bases_at bases_end : ℕ) (few : count < 1024) (room : 95234 ≤ length rows) where
  abbrev row : List ℕ
  row = contig_at ∷ contig_end ∷ first ∷ bases_at ∷ bases_end ∷ []

  abbrev more : List ℕ
  more = sets rows (90112 + count * 5) row

  column_before : (k segment : ℕ) → k < 5 → segment < count → segment_column k rows segment ≡ segment_column k more segment
  unfolding segment_column
  column_before k segment h b = sym (get_before row rows (90112 + count * 5) (90112 + segment * 5 + k) (omega arith))

  column_here : (k : ℕ) → k < 5 → segment_column k more count ≡ get_or row k 0
  unfolding segment_column
  column_here k h = get_here row rows (90112 + count * 5) k (omega arith) (omega arith)

  rows_before : (i : ℕ) → i < count → placed_at reference rows i ≡ placed_at reference more i
  unfolding placed_at segment_at
  rows_before i h = rw (
    column_before 0 i (omega arith) h,
    column_before 1 i (omega arith) h,
    column_before 2 i (omega arith) h,
    column_before 3 i (omega arith) h,
    column_before 4 i (omega arith) h,
  )

  abbrev here : PlacedSegment
  here = record {
    segment = record { contig = between reference contig_at contig_end; first = first; bases = map capital (between reference bases_at bases_end) };
    bases_at = bases_at;
  }

  row_here : placed_at reference more count ≡ here
  unfolding placed_at segment_at
  row_here = rw (
    column_here 0 (omega arith),
    column_here 1 (omega arith),
    column_here 2 (omega arith),
    column_here 3 (omega arith),
    column_here 4 (omega arith),
  )

  pub segment_stored : {rows₀ : List ℕ} {at next : ℕ} → SegmentsStored reference rows₀ rows count at
      → GroupTo reference at segment_of here.segment next
      → ValuePart reference (line_start reference at 2) (key_of "bases") bases_at bases_end
      → SegmentsStored reference rows₀ more (count + 1) next
  segment_stored {next = next} inv to part = record {
    only = record {
      long = length-sets rows (90112 + count * 5) row ∙ inv.only.long;
      before = λ j h. get_before row rows (90112 + count * 5) j (omega arith) ∙ inv.only.before j h;
      behind = λ j h. get_behind row rows (90112 + count * 5) j (omega arith) ∙ inv.only.behind j (omega arith);
    };
    in_rows = record { few = omega arith; split = inv.in_rows.split ∙ rw (placed_group reference to part) joined };
  }
    where
      joined : map (placed_at reference rows) (numbers_from 0 count) ++ (here ∷ segments_placed reference next)
          ≡ map (placed_at reference more) (numbers_from 0 (count + 1)) ++ segments_placed reference next
      joined =
          rw (
            map_same (placed_at reference rows) (placed_at reference more) 0 count (λ i h. rows_before i (omega arith)),
            one_more (placed_at reference more) count,
            row_here,
          )
          (sym (append_assoc (map (placed_at reference more) (numbers_from 0 count)) (here ∷ []) (segments_placed reference next)))

-- how many segments have rows behind the loop
module _ (reference : List ℕ) {rows : List ℕ} {count at : ℕ} (x : SegmentsInRows reference rows count at) where
  all_long : length (segments_read reference 0) ≡ count + length (segments_placed reference at)
  all_long =
      sym (placed_count reference 0) ∙ ap length x.split
      ∙ length-append (map (placed_at reference rows) (numbers_from 0 count)) (segments_placed reference at)
      ∙ ap (λ (n : ℕ). n + length (segments_placed reference at)) (length-map (numbers_from 0 count) (placed_at reference rows) ∙ length_numbers 0 count)

  pub counted_all : segments_placed reference at ≡ [] → count ≡ rows_for (segments_read reference 0)
  unfolding rows_for
  counted_all f =
      let e : length (segments_read reference 0) ≡ count = omega (arith, all_long, ap length f) in
      rw (e, le-leb count 1024 x.few)

  pub counted_most : 1024 ≤ count → count ≡ rows_for (segments_read reference 0)
  unfolding rows_for
  counted_most h = go (leb (length (segments_read reference 0)) 1024) refl
    where
      go : (b : Bool) → leb (length (segments_read reference 0)) 1024 ≡ b → count ≡ cond b (length (segments_read reference 0)) 1024
      go true e = omega (arith, all_long, leb-true (length (segments_read reference 0)) 1024 e, x.few)
      go false e = omega (arith, x.few)

-- ---- readers of the rows

-- the segments that are read are those of the rows, and behind them those from the stored offset on
pub segments_split : (reference rows : List ℕ) → SegmentsIndexed reference rows
    → segments_read reference 0
    ≡ map (segment_at reference rows) (numbers_from 0 (segment_count rows)) ++ segments_read reference (segments_next rows)
unfolding placed_at
segments_split reference rows x =
    let row-segments = map-map (λ (p : PlacedSegment). p.segment) (placed_at reference rows) (numbers_from 0 (segment_count rows)) in
    sym (placed_segments reference 0) ∙ ap (map (λ (p : PlacedSegment). p.segment)) x.split
    ∙ map-append (λ (p : PlacedSegment). p.segment) (map (placed_at reference rows) (numbers_from 0 (segment_count rows))) _
    ∙ rw (row-segments, placed_segments reference (segments_next rows))

-- column 3 of a row is where the bases of the group with its number begin
pub bases_column : (reference rows : List ℕ) → SegmentsIndexed reference rows → (k : ℕ) → k < segment_count rows
    → segment_column 3 rows k ≡ bases_start reference (line_start reference 0 (3 * k))
unfolding placed_at
bases_column reference rows x k h =
    let count = segment_count rows in
    let d = placed_at reference rows 0 in
    let many = length-map (numbers_from 0 count) (placed_at reference rows) ∙ length_numbers 0 count in
    let below : k < length (segments_read reference 0) = omega (arith, all_long reference x) in
    let here : get_or (segments_placed reference 0) k d ≡ placed_at reference rows k =
    ap (λ (l : List PlacedSegment). get_or l k d) x.split ∙ get_or-append (map (placed_at reference rows) (numbers_from 0 count)) _ d k (omega arith)
    ∙ map_numbers (placed_at reference rows) d 0 count k h ∙ rw (zero-add k) in
    ap (λ (p : PlacedSegment). p.bases_at) (sym here) ∙ bases_at_lem reference k d below

-- ---- how many, and where the text goes on

-- the rows are the same in a table with the same numbers before the counts
module _ (reference rows after : List ℕ) (same : (j : ℕ) → j < 95232 → get_or after j 0 ≡ get_or rows j 0) where
  row_same : (i : ℕ) → i < 1024 → placed_at reference rows i ≡ placed_at reference after i
  unfolding placed_at segment_at segment_column
  row_same i h = rw (
    same (90112 + i * 5 + 0) (omega arith),
    same (90112 + i * 5 + 1) (omega arith),
    same (90112 + i * 5 + 2) (omega arith),
    same (90112 + i * 5 + 3) (omega arith),
    same (90112 + i * 5 + 4) (omega arith),
  )

  rows_same : {count next : ℕ} → SegmentsInRows reference rows count next → SegmentsInRows reference after count next
  rows_same {count = count} {next = next} x =
      let all = map_same (placed_at reference rows) (placed_at reference after) 0 count (λ i h. row_same i (omega (arith, x.few))) in
      record { few = x.few; split = x.split ∙ ap (λ (l : List PlacedSegment). l ++ segments_placed reference next) all }

-- two numbers stored behind the rows
module _ {reference rows₀ rows : List ℕ} {count next : ℕ} (room : 95234 ≤ length rows) (x : SegmentsStored reference rows₀ rows count next) where
  abbrev after : List ℕ
  after = set (set rows 95232 count) 95233 next

  other : (j : ℕ) → (j ≡ 95232 → ⊥) → (j ≡ 95233 → ⊥) → get_or after j 0 ≡ get_or rows j 0
  other j h k = get_or-set_other (set rows 95232 count) 95233 j next 0 k ∙ get_or-set_other rows 95232 j count 0 h

  before : (j : ℕ) → j < 95232 → get_or after j 0 ≡ get_or rows j 0
  before j h = other j (λ e. absurd (omega arith)) (λ e. absurd (omega arith))

  the_count : get_or after 95232 0 ≡ count
  the_count =
      get_or-set_other (set rows 95232 count) 95233 95232 next 0 (λ e. absurd (omega arith)) ∙ get_or-set_same rows 95232 count 0 (omega arith)

  the_next : get_or after 95233 0 ≡ next
  the_next = get_or-set_same (set rows 95232 count) 95233 next 0 (omega (arith, length-set rows 95232 count))

  segments_only : SegmentsOnly rows₀ after
  segments_only = record {
    long = length-set (set rows 95232 count) 95233 next ∙ length-set rows 95232 count ∙ x.only.long;
    sites = λ j h. before j (omega arith) ∙ x.only.before j h;
    unused = λ j h k. before j k ∙ x.only.behind j (rw the_count at h);
    past = λ j h. other j (λ e. absurd (omega arith)) (λ e. absurd (omega arith)) ∙ x.only.behind j (omega (arith, x.in_rows.few));
  }

  pub segments_given : count ≡ rows_for (segments_read reference 0) → SegmentsGiven reference rows₀ after
  segments_given all = record {
    only = segments_only;
    short = λ h. absurd (omega (arith, x.only.long));
    indexed = λ _. rw (the_count, the_next) (rows_same reference rows after before x.in_rows);
    counted = λ _. the_count ∙ all;
  }

-- a table that is too short, or has no text to store, is as it was
pub segments_unchanged : (rows : List ℕ) → SegmentsOnly rows rows
segments_unchanged rows = record { long = refl; sites = λ j h. refl; unused = λ j h k. refl; past = λ j h. refl }

pub no_segments_given : (reference rows : List ℕ) → length rows < 95234 → SegmentsGiven reference rows rows
no_segments_given reference rows short =
    record { only = segments_unchanged rows; short = λ _. refl; indexed = λ h. absurd (omega arith); counted = λ h. absurd (omega arith) }
