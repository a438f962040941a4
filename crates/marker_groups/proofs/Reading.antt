-- A marker behind those of the table, and the markers one after the other.
use Prim.Native.Nat.{◌*◌, ◌+◌, ◌<◌, ◌≤◌, ℕ}
use borrow.Author.Tests.{le-ltb, lt-ltb}
use lib.Dec.{ltb}
use lib.ListN.{drop, length, length-map, length-reverse}
use lib.Seq.{drop-drop, sets}
use mathlib.Core.Bool.{Bool, ◌&&◌, false, not, true}
use mathlib.Core.List.{List, [], ◌∷◌, reverse, reverse-append, reverse-reverse}
use mathlib.Core.Path.{◌∙◌, ◌≡◌, ap, refl, sym}
use native.Mathlib.Omega.{arith}
use Rattle.definitions.specs.Bytes.{same_bytes}
use Rattle.definitions.specs.Checked.{Checked, ◌>>=◌, ◌>>◌, accepted, read_each, refused, refused_as, require}
use Rattle.definitions.specs.Lines.{lines_of}
use Rattle.definitions.specs.Lists.{all_of, any_of, groups_of, numbers_from}
use Rattle.definitions.specs.SelectionSheet.{Marker, is_named, marker_lines, marker_of, markers_of, max_markers}
use Rattle.kv_text.proofs.Groups.{continued, continued_end, continued_next, continued_refused, continued_start, group_accepted, group_refused, groups_ended}
use Rattle.laws.proofs.Checked.{not_required, required, then}
use Rattle.laws.proofs.Members.{length_numbers}
use Rattle.site_groups.specs.SiteGroups.{bytes_of}
use Rattle.tables.proofs.Stored.{one_more}
use Rattle.marker_groups.proofs.Find.{is_named_lem}
use Rattle.marker_groups.proofs.MarkerGroup.{as_19}
use Rattle.marker_groups.proofs.Rows.{marker_here, marker_from, markers_same, rest_behind, sound_more}
use Rattle.marker_groups.specs.Markers.{AftersTo, LinesTo, MarkerTo, MarkersTo, RowsSound, after_names, marker_at, marker_group, markers_in, names_in, row_of}
use Rattle.marker_groups.specs.declared.MarkerLines.{MarkerLines}

-- ---- one marker

abbrev pub nearest : List ℕ → List ℕ → ℕ → List Marker
nearest s rows count = reverse (markers_in s rows count)

count_is : (s rows : List ℕ) (count : ℕ) → length (nearest s rows count) ≡ count
unfolding markers_in
count_is s rows count = length-reverse (markers_in s rows count) ∙ length-map (numbers_from 0 count) (marker_at s rows) ∙ length_numbers 0 count

all_alike : {A : Type 0} (p q : A → Bool) → ((x : A) → p x ≡ q x) → (l : List A) → all_of p l ≡ all_of q l
unfolding all_of
all_alike p q e [] = refl
all_alike p q e (x ∷ l) = rw (e x, all_alike p q e l)

module _ {s : List ℕ} {at : ℕ} {l : MarkerLines} (lines : LinesTo s at l) (rows : List ℕ) (count : ℕ) where
  abbrev answer : Checked Marker
  answer = marker_of (nearest s rows count) (marker_group s at)

  abbrev fresh : Bool
  fresh = ltb (length (nearest s rows count)) max_markers && not (is_named (nearest s rows count) (bytes_of s l.name))

  abbrev known : Bool
  known = all_of (is_named (nearest s rows count)) (after_names (bytes_of s l.after))

  -- what is left behind the lines
  by_lines : answer ≡ (refused_as 19 (require 19 fresh >> accepted (marker_from s l))
      >>= λ m. require 20 (all_of (is_named (nearest s rows count)) m.after) >> accepted m)
  unfolding marker_of
  by_lines =
      ap (λ (c : Checked Marker). refused_as 19 c >>= λ m. require 20 (all_of (is_named (nearest s rows count)) m.after) >> accepted m)
      (then _ _ lines.marker (then _ _ lines.contig (then _ _ lines.pos (then _ _ lines.allele (then _ _ lines.weight
      (then _ _ lines.after refl))))))

  pub too_many : 500 ≤ count → answer ≡ refused 19
  too_many h = by_lines ∙ as_19 _ _ (not_required 19 _ _ (rw (count_is s rows count, le-ltb count 500 h)))

  module _ (room : count < 500) where
    pub repeated : any_of (same_bytes (bytes_of s l.name)) (names_in s rows count) ≡ true → answer ≡ refused 19
    repeated e =
        by_lines ∙ as_19 _ _ (not_required 19 _ _
        (rw (count_is s rows count, lt-ltb count 500 room, is_named_lem s rows count (bytes_of s l.name), e)))

    module _ (new : any_of (same_bytes (bytes_of s l.name)) (names_in s rows count) ≡ false) where
      past_names : answer ≡ (require 20 known >> accepted (marker_from s l))
      unfolding refused_as ◌>>=◌
      past_names =
          let passes : fresh ≡ true = rw (count_is s rows count, lt-ltb count 500 room, is_named_lem s rows count (bytes_of s l.name), new) in
          by_lines ∙ ap (λ (c : Checked Marker). refused_as 19 c >>= λ m. require 20 (all_of (is_named (nearest s rows count)) m.after) >> accepted m)
          (required 19 fresh (accepted (marker_from s l)) passes refl)

      known_is : known ≡ all_of (λ n. any_of (same_bytes n) (names_in s rows count)) (after_names (bytes_of s l.after))
      known_is = all_alike _ _ (λ n. is_named_lem s rows count n) (after_names (bytes_of s l.after))

      pub unnamed : all_of (λ n. any_of (same_bytes n) (names_in s rows count)) (after_names (bytes_of s l.after)) ≡ false → answer ≡ refused 20
      unnamed e = past_names ∙ not_required 20 _ _ (known_is ∙ e)

      pub marker_to : (names : ℕ) (numbers : List ℕ) (to : AftersTo s rows count (bytes_of s l.after) numbers names) → 6500 ≤ length rows
          → (rows' : List ℕ) → rows' ≡ sets rows (count * 13) (row_of l names numbers)
          → MarkerTo s at rows rows' count l.next
      marker_to names numbers to long rows' e =
          let fits : count * 13 + 13 ≤ length rows = omega arith in
          let few : names ≤ 4 = omega (arith, to.count_is, lines.few) in
          rw e (record {
            value =
                past_names ∙ required 20 _ _ (known_is ∙ to.all) refl
                ∙ ap {B = Checked Marker} accepted (sym (marker_here s rows count l names numbers fits few to));
            table = λ sound. markers_same s rows count l names numbers fits few to sound;
            sound = λ sound. sound_more s rows count l names numbers fits few to sound room;
            rest = rest_behind s rows count l names numbers fits few to;
            behind = lines.behind;
            forward = lines.forward;
            within = lines.within;
          })

-- ---- all markers

pub record Reading (s rows₀ rows : List ℕ) (at count : ℕ) : Type 0 where
  pub same : markers_of s ≡ continued (nearest s rows count) (read_each marker_of (nearest s rows count) (groups_of marker_lines (lines_of (drop at s))))
  pub sound : RowsSound rows count
  pub rest : drop (count * 13) rows ≡ drop (count * 13) rows₀
  pub long : length rows ≡ length rows₀

pub reading_start : (s rows : List ℕ) → Reading s rows rows 0 0
unfolding markers_of markers_in numbers_from
reading_start s rows = record {
  same = continued_start _;
  sound = record { few = omega arith; after_few = λ marker h. absurd (omega arith); below = λ marker h. absurd (omega arith) };
  rest = refl;
  long = refl;
}

nearest_more : (s rows : List ℕ) (count : ℕ) → nearest s rows (count + 1) ≡ marker_at s rows count ∷ nearest s rows count
unfolding markers_in
nearest_more s rows count = rw (one_more (marker_at s rows) count) (reverse-append (markers_in s rows count) (marker_at s rows count ∷ []))

module _ {s rows₀ rows : List ℕ} {at count : ℕ} (r : Reading s rows₀ rows at count) where
  module _ (more : at < length s) where
    six : 0 < marker_lines
    unfolding marker_lines
    six = omega arith

    pub reading_refused : (row : ℕ) → marker_of (nearest s rows count) (marker_group s at) ≡ refused row → markers_of s ≡ refused row
    reading_refused row e =
        r.same ∙ ap (continued (nearest s rows count)) (group_refused marker_lines six marker_of (nearest s rows count) s at row more e)
        ∙ continued_refused (nearest s rows count) row

    pub reading_next : (rows' : List ℕ) (next : ℕ) → MarkerTo s at rows rows' count next → length rows' ≡ length rows → Reading s rows₀ rows' next (count + 1)
    reading_next rows' next to same_length = record {
      same =
          r.same ∙ ap (continued (nearest s rows count))
          (group_accepted marker_lines six marker_of (nearest s rows count) s at (marker_at s rows' count) next more to.behind to.value)
          ∙ continued_next (nearest s rows count) (marker_at s rows' count) (read_each marker_of (marker_at s rows' count ∷ nearest s rows count) (groups_of marker_lines (lines_of (drop next s))))
          ∙ ap (λ (before : List Marker). continued before (read_each marker_of before (groups_of marker_lines (lines_of (drop next s)))))
          (sym (nearest_more s rows' count ∙ ap (λ (ms : List Marker). marker_at s rows' count ∷ reverse ms) (to.table r.sound)));
      sound = to.sound r.sound;
      rest =
          let there : (count + 1) * 13 ≡ count * 13 + 13 = omega arith in
          to.rest ∙ rw there (sym (drop-drop 13 (count * 13) rows) ∙ ap (drop 13) r.rest ∙ drop-drop 13 (count * 13) rows₀);
      long = same_length ∙ r.long;
    }

  pub reading_end : length s ≤ at → MarkersTo s rows₀ rows count
  unfolding marker_lines
  reading_end past = record {
    value =
        r.same ∙ ap (continued (nearest s rows count)) (groups_ended marker_lines (omega arith) marker_of (nearest s rows count) s at past)
        ∙ continued_end (nearest s rows count) ∙ ap {B = Checked (List Marker)} accepted (reverse-reverse (markers_in s rows count));
    sound = r.sound;
    rest = r.rest;
  }
