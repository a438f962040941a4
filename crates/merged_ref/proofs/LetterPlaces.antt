-- Where the letter stands: in one segment, in segments one after the other, the loops that look for it, and that it is the letter.
use Prim.Native.Nat.{◌+◌, ◌-◌, ◌<◌, ◌≤◌, ℕ}
use borrow.Author.Tests.{le-leb, le-ltb, lt-leb, lt-ltb}
use lib.ListN.{length, length-map}
use mathlib.Core.Bool.{Bool, false, true}
use mathlib.Core.List.{List, [], ◌++◌, ◌∷◌, map, map-append, map-map}
use mathlib.Core.Option
use mathlib.Core.Option.{Option, none, some}
use mathlib.Core.Path.{◌∙◌, ◌≡◌, ap, refl, sym}
use native.Mathlib.Nat.{sub-zero}
use native.Mathlib.Omega.{arith}
use Rattle.clip_and_reference.proofs.Places.{BasesStand, bases_stand, placed_end, placed_faulty, placed_group, placed_segments}
use Rattle.clip_and_reference.specs.Groups.{GroupFaulty, GroupTo, PlacedSegment, ValuePart, segments_placed}
use Rattle.definitions.specs.Alleles.{capital}
use Rattle.definitions.specs.Bytes.{same_bytes}
use Rattle.definitions.specs.ClipAndReference.{ReferenceSegment, segment_holds, segment_of}
use Rattle.definitions.specs.Lines.{key_of}
use Rattle.definitions.specs.Lists.{first_where, numbers_from}
use Rattle.indexed_groups.specs.Indexed.{SegmentsIndexed, placed_at}
use Rattle.kv_text.specs.Fields.{between}
use Rattle.kv_text.specs.Lines.{line_start}
use Rattle.laws.proofs.Every.{Every, every_all, every_append, every_member, every_of_map}
use Rattle.laws.proofs.Members.{first_found, first_map}
use Rattle.laws.proofs.Tests.{not_none, some_same}
use Rattle.tables.proofs.Stored.{rows_end, rows_next}
use Rattle.tables.specs.Tables.{segment_at, segment_column, segment_count, segments_next}
use Rattle.merged_ref.proofs.Letters.{LetterFound, first_behind, first_front}
use Rattle.merged_ref.specs.Answers.{letter_place, place_in, placed_by, placed_in, reference_placed, reference_segments}

-- ---- one segment

module _ (s contig : List ℕ) (position contig_at contig_end first bases_at bases_end : ℕ) where
  abbrev here : Option ℕ
  here = letter_place contig position (placed_by s contig_at contig_end first bases_at bases_end ∷ [])

  as_many : length (map capital (between s bases_at bases_end)) ≡ length (between s bases_at bases_end)
  as_many = length-map (between s bases_at bases_end) capital

  pub off_contig : same_bytes contig (between s contig_at contig_end) ≡ false → none ≡ here
  unfolding letter_place first_where segment_holds
  off_contig h = rw h

  module _ (h : same_bytes contig (between s contig_at contig_end) ≡ true) where
    pub too_early : position < first → none ≡ here
    unfolding letter_place first_where segment_holds
    too_early k = rw (h, lt-leb first position k)

    module _ (low : first ≤ position) where
      pub too_late : length (between s bases_at bases_end) ≤ position - first → none ≡ here
      unfolding letter_place first_where segment_holds
      too_late k = rw (h, le-leb first position low, as_many, le-ltb position (first + length (between s bases_at bases_end)) (omega arith))

      pub at_index : position - first < length (between s bases_at bases_end) → some (bases_at + (position - first)) ≡ here
      unfolding letter_place place_in first_where segment_holds
      at_index k = rw (h, le-leb first position low, as_many, lt-ltb position (first + length (between s bases_at bases_end)) (omega arith))

-- ---- segments one after the other

-- from what is made of a value back to the value
map_back : {A B : Type 0} (f : A → B) (o : Option A) {b : B} → Option.map f o ≡ some b → (a : A) × (o ≡ some a) × (b ≡ f a)
map_back f none e = not_none e
map_back f (some a) e = (a, refl, sym (some_same e))

map_none : {A B : Type 0} (f : A → B) (o : Option A) → Option.map f o ≡ none → o ≡ none
map_none f none e = refl
map_none f (some a) e = not_none (sym e)

module _ (contig : List ℕ) (position : ℕ) where
  abbrev place : List PlacedSegment → Option ℕ
  place = letter_place contig position

  abbrev holds : PlacedSegment → Bool
  holds p = segment_holds contig position p.segment

  -- a place in the first of two lists is that in both; if there is none, it is the place in the second
  place_front : (front rest : List PlacedSegment) {i : ℕ} → some i ≡ place front → some i ≡ place (front ++ rest)
  unfolding letter_place
  place_front front rest e =
      let (p, found, is) = map_back (place_in position) _ (sym e) in
      e ∙ ap (Option.map (place_in position)) (found ∙ sym (first_front holds front rest found))

  place_behind : (front rest : List PlacedSegment) → none ≡ place front → place rest ≡ place (front ++ rest)
  unfolding letter_place
  place_behind front rest e = rw (first_behind holds front rest (map_none (place_in position) _ (sym e)))

  place_nowhere : {rest : List PlacedSegment} → rest ≡ [] → none ≡ place rest
  unfolding letter_place first_where
  place_nowhere e = rw e

  -- the place in what is left is that in all
  module _ {rest : List PlacedSegment} {all : Option ℕ} (left : place rest ≡ all) where
    left_ended : rest ≡ [] → none ≡ all
    left_ended e = place_nowhere e ∙ left

    module _ {p : PlacedSegment} {later : List PlacedSegment} (e : rest ≡ p ∷ later) where
      left_passed : none ≡ place (p ∷ []) → place later ≡ all
      left_passed f = place_behind (p ∷ []) later f ∙ sym (ap place e) ∙ left

      left_found : {i : ℕ} → some i ≡ place (p ∷ []) → some i ≡ all
      left_found f = place_front (p ∷ []) later f ∙ sym (ap place e) ∙ left

  module _ (reference : List ℕ) where
    -- the segments with rows
    module _ (rows : List ℕ) where
      pub record RowsLeft (i : ℕ) : Type 0 where
        left : place (map (placed_at reference rows) (numbers_from i (segment_count rows - i))) ≡ place (placed_in reference rows)

      pub rows_start : RowsLeft 0
      rows_start = record { left = rw (sub-zero (segment_count rows)) }

      module _ {i : ℕ} (p : RowsLeft i) where
        pub rows_passed : i < segment_count rows → none ≡ place (placed_at reference rows i ∷ []) → RowsLeft (i + 1)
        rows_passed h f = record { left = left_passed p.left (rows_next (placed_at reference rows) (segment_count rows) i h) f }

        pub rows_found : i < segment_count rows → {k : ℕ} → some k ≡ place (placed_at reference rows i ∷ [])
            → some k ≡ place (placed_in reference rows)
        rows_found h f = left_found p.left (rows_next (placed_at reference rows) (segment_count rows) i h) f

        pub rows_absent : segment_count rows ≤ i → none ≡ place (placed_in reference rows)
        rows_absent h = left_ended p.left (rows_end (placed_at reference rows) (segment_count rows) i h)

      -- and those behind them
      pub in_rows : {i : ℕ} → some i ≡ place (placed_in reference rows) → some i ≡ place (reference_placed reference rows)
      unfolding reference_placed
      in_rows f = place_front (placed_in reference rows) _ f

      pub behind_rows : none ≡ place (placed_in reference rows) → {o : Option ℕ} → o ≡ place (segments_placed reference (segments_next rows))
          → o ≡ place (reference_placed reference rows)
      unfolding reference_placed
      behind_rows f g = g ∙ place_behind (placed_in reference rows) _ f

    -- the segments from an offset on
    module _ (start : ℕ) where
      pub record LetterLeft (at : ℕ) : Type 0 where
        left : place (segments_placed reference at) ≡ place (segments_placed reference start)

      pub letter_start : LetterLeft start
      letter_start = record { left = refl }

      module _ {at : ℕ} (p : LetterLeft at) where
        pub letter_faulty : GroupFaulty reference at segment_of → none ≡ place (segments_placed reference start)
        letter_faulty f = left_ended p.left (placed_faulty reference at f)

        pub letter_end : length reference ≤ at → none ≡ place (segments_placed reference start)
        letter_end h = left_ended p.left (placed_end reference at h)

        module _ {g : ReferenceSegment} {next a e : ℕ} (to : GroupTo reference at segment_of g next)
            (part : ValuePart reference (line_start reference at 2) (key_of "bases") a e) where
          pub letter_passed : none ≡ place (record { segment = g; bases_at = a } ∷ []) → LetterLeft next
          letter_passed f = record { left = left_passed p.left (placed_group reference to part) f }

          pub letter_found : {i : ℕ} → some i ≡ place (record { segment = g; bases_at = a } ∷ []) → some i ≡ place (segments_placed reference start)
          letter_found f = left_found p.left (placed_group reference to part) f

-- ---- the letter at that place

module _ (reference rows : List ℕ) where
  -- the segments, and that their bases stand where it is said
  segments_placed_lem : map (λ (p : PlacedSegment). p.segment) (reference_placed reference rows) ≡ reference_segments reference rows
  unfolding reference_placed reference_segments placed_at
  segments_placed_lem =
      map-append (λ (p : PlacedSegment). p.segment) (placed_in reference rows) _
      ∙ rw (
        map-map (λ (p : PlacedSegment). p.segment) (placed_at reference rows) (numbers_from 0 (segment_count rows)),
        placed_segments reference (segments_next rows),
      )

  row_stands : (segment : ℕ) → BasesStand reference (placed_at reference rows segment)
  unfolding placed_at segment_at
  row_stands segment = record { bases_end = segment_column 4 rows segment; bases = refl }

  all_stand : Every (BasesStand reference) (reference_placed reference rows)
  unfolding reference_placed
  all_stand =
      every_append (every_of_map (placed_at reference rows) {l = numbers_from 0 (segment_count rows)} (every_all row_stands _))
      (bases_stand reference (segments_next rows))

  module _ (contig : List ℕ) (position : ℕ) where
    -- the first that holds the position, with and without its place
    abbrev placed_first : Option PlacedSegment
    placed_first = first_where (holds contig position) (reference_placed reference rows)

    first_placed : first_where (segment_holds contig position) (reference_segments reference rows)
        ≡ Option.map (λ (p : PlacedSegment). p.segment) placed_first
    first_placed = rw (← segments_placed_lem) (first_map (λ (p : PlacedSegment). p.segment) (segment_holds contig position) (reference_placed reference rows))

    pub place_stands : {i : ℕ} → some i ≡ letter_place contig position (reference_placed reference rows)
        → LetterFound reference contig position (reference_segments reference rows) (some i)
    unfolding letter_place place_in LetterFound
    place_stands e =
        let (p, found, is) = map_back (place_in position) placed_first (sym e) in
        let stands = every_member (first_found _ _ found).0 all_stand in
        record {
          segment = p.segment;
          holding = first_placed ∙ ap (Option.map (λ (p : PlacedSegment). p.segment)) found;
          bases_at = p.bases_at;
          bases_end = stands.bases_end;
          bases = stands.bases;
          offset = is;
        }

    pub place_lacks : none ≡ letter_place contig position (reference_placed reference rows)
        → LetterFound reference contig position (reference_segments reference rows) none
    unfolding letter_place LetterFound
    place_lacks e = first_placed ∙ ap (Option.map (λ (p : PlacedSegment). p.segment)) (map_none (place_in position) placed_first (sym e))

    -- for readers: of segments whose rows are given the place is that in the groups of the text, whatever rows they have
    pub place_in_text : SegmentsIndexed reference rows
        → letter_place contig position (reference_placed reference rows) ≡ letter_place contig position (segments_placed reference 0)
    unfolding reference_placed
    place_in_text x = ap (letter_place contig position) (sym x.split)
