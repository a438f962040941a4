-- Many positions looked up in a combined list, front to back, and how many record groups were read. Row 18.
use Prim.Native.Nat.{◌*◌, ◌+◌, compare, suc, ℕ}
use Rattle.std.specs.Prelude.{leb, ltb, drop, length, Bool, ◌&&◌, cond, false, true, List, [], ◌∷◌, map}
use Rattle.std.proofs.Math.Option
use Rattle.std.proofs.Math.Option.{Option, get_or, none, some}
use Rattle.definitions.specs.Bytes.{and_then, compare_bytes, same_bytes}
use Rattle.definitions.specs.Checked.{Checked, ◌>>=◌, ◌>>◌, accepted, read_each, refused, require}
use Rattle.definitions.specs.Cohort.{samples_of}
use Rattle.definitions.specs.CombinedList.{fits}
use Rattle.definitions.specs.Lines.{Line, line_at, lines_of}
use Rattle.definitions.specs.ListReader.{record_lines, record_read, sample_lines, with_missing}
use Rattle.definitions.specs.Lists.{by_order, groups_of, index_where}
use Rattle.definitions.specs.Numbers.{name, number}
use Rattle.definitions.specs.Records.{Record, record_end}

-- a position of a contig
pub record Place : Type 0 where
  pub contig : List ℕ
  pub position : ℕ

abbrev pub max_places : ℕ
max_places = 1024

-- list order: by contig name, then by position; equal ones are in order
unfoldable pub not_after : Place → Place → Bool
not_after a b = by_order (and_then (compare_bytes a.contig b.contig) (compare a.position b.position)) true true false

-- it does not stand before the nearest of those before it
unfoldable pub follows : List Place → Place → Bool
follows [] p = true
follows (q ∷ r) p = not_after q p

-- A place, after those before it. Row 1: its lines; row 18: the 1,025th, or before the nearest one.
unfoldable pub place_of : List Place → List Line → Checked Place
place_of before group = do
  contig ← line_at group 0 "contig" name
  position ← line_at group 1 "pos" number
  require 18 (ltb (length before) max_places && follows before (record { contig = contig; position = position }))
  accepted (record { contig = contig; position = position })

-- the places of a text of groups of two lines
unfoldable pub places_of : List ℕ → Checked (List Place)
places_of s = read_each place_of [] (groups_of 2 (lines_of s))

-- the last of them
unfoldable pub last_of : List Place → Option Place
last_of [] = none
last_of (p ∷ []) = some p
last_of (p ∷ q ∷ r) = last_of (q ∷ r)

-- the record's stretch ends, in list order, at the place or after it
unfoldable pub reaches : Place → Record → Bool
reaches p r = not_after p (record { contig = r.contig; position = record_end r })

-- the record's stretch holds the place
unfoldable pub holds_place : Place → Record → Bool
holds_place p r = same_bytes p.contig r.contig && leb r.pos p.position && leb p.position (record_end r)

-- The records of groups, read one after the other up to and including the first that reaches the place, or all: what is refused
-- behind it goes unseen.
unfoldable pub read_to : ℕ → ℕ → Place → List Record → List (List Line) → Checked (List Record)
read_to samples records p before [] = accepted []
read_to samples records p before (g ∷ gs) = do
  r ← record_read samples records before g
  rest ← cond (reaches p r) (accepted []) (read_to samples records p (r ∷ before) gs)
  accepted (r ∷ rest)

-- those that are read for the last place; without one none
unfoldable pub read_to_last : ℕ → ℕ → Option Place → List (List Line) → Checked (List Record)
read_to_last samples records none groups = accepted []
read_to_last samples records (some p) groups = read_to samples records p [] groups

-- how many records of a list are read for a place: those up to and including the first that reaches it, or all
unfoldable pub steps_to : Place → List Record → ℕ
steps_to p records = get_or (Option.map suc (index_where (reaches p) records)) (length records)

-- for each place the number of the record that holds it, and how many record groups were read
pub record LookedUp : Type 0 where
  pub found : List (Option ℕ)
  pub groups : ℕ

-- The places looked up in a list: rows 1 to 8 of what is read. Without places only the header is.
unfoldable pub looked_up : List ℕ → List Place → Checked LookedUp
looked_up s places =
    let ls = lines_of s in do
      names ← samples_of ls
      count ← line_at ls (suc (length names)) "records" number
      records ← read_to_last (length names) count (last_of places)
          (with_missing count (groups_of (record_lines + sample_lines * length names) (drop (2 + length names) ls)))
      accepted (record { found = map (λ p. index_where (holds_place p) records) places; groups = length records })

-- The whole: text lengths (2), the places (1 and 18), then the list.
unfoldable pub look_up : List ℕ → List ℕ → Checked LookedUp
look_up s asked = do
  require 2 (fits s && fits asked)
  places ← places_of asked
  looked_up s places

-- what a lent slice shows for a place that no record holds: past every record's number
abbrev pub no_record : ℕ
no_record = 4294967295

-- the answers as a lent slice takes them, one number for each place
unfoldable pub found_numbers : List (Option ℕ) → List ℕ
found_numbers = map (λ o. get_or o no_record)

-- The whole with so many places for the answers. Row 14, last: they are fewer than the pairs.
unfoldable pub look_up_within : List ℕ → List ℕ → ℕ → Checked LookedUp
look_up_within s asked out_length = do
  l ← look_up s asked
  require 14 (leb (length l.found) out_length)
  accepted l

-- the numbers that are written
unfoldable pub numbers_written : Checked LookedUp → Checked (List ℕ)
numbers_written (refused n) = refused n
numbers_written (accepted l) = accepted (found_numbers l.found)
