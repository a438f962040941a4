-- What reading the pairs of a text finds.
use Rattle.std.specs.Prelude.{◌<◌, ◌≤◌, ℕ, ltb, drop, length, take, ◌&&◌, List, ◌≡◌}
use Rattle.answers.specs.Answered.{row_of}
use Rattle.answers.specs.declared.Refusal.{Refusal}
use Rattle.bio_ids.specs.declared.GenomePosition.{GenomePosition}
use Rattle.definitions.specs.Checked.{Checked, ◌>>◌, accepted, refused, require}
use Rattle.definitions.specs.Lines.{Line, lines_of}
use Rattle.definitions.specs.LookUp.{Place, follows, max_places, place_of, places_of}
use Rattle.kv_text.specs.Fields.{between}
use Rattle.kv_text.specs.Lines.{Behind}
use Rattle.asked_places.specs.declared.Pair.{Pair}
use Rattle.std.specs.Prelude as std

-- the place of a contig and a position
abbrev pub place_with : List ℕ → GenomePosition → Place
place_with contig position = record { contig = contig; position = position.0 }

-- the place that a pair of a text asks for
abbrev pub place_in : List ℕ → Pair → Place
place_in s p = place_with (between s p.contig.at p.contig.end) p.position

-- the lines of the pair at an offset
abbrev pub pair_lines : List ℕ → ℕ → List Line
pair_lines s at = take 2 (lines_of (drop at s))

-- row 18 for a place, after those before it
abbrev pub in_order_after : List Place → Place → Checked Place
in_order_after before p = require 18 (ltb (length before) max_places && follows before p) >> accepted p

-- the lines at an offset read as a pair, and the text goes on behind it
pub record PairTo (s : List ℕ) (at : ℕ) (p : Pair) : Type 0 where
  pub value : (before : List Place) → place_of before (pair_lines s at) ≡ in_order_after before (place_in s p)
  pub behind : Behind s at 2 p.next
  pub forward : at < p.next
  pub within : p.next ≤ length s

unfoldable pub PairRead : List ℕ → ℕ → std.Option Pair → Type 0
PairRead s at (std.Some p) = PairTo s at p
PairRead s at std.None = (before : List Place) → place_of before (pair_lines s at) ≡ refused 1

-- the text asks for so many places
pub record PlacesTo (s : List ℕ) (count : ℕ) : Type 0 where
  pub places : List Place
  pub value : places_of s ≡ accepted places
  pub counted : count ≡ length places

unfoldable pub PlacesRead : List ℕ → std.Result ℕ Refusal → Type 0
PlacesRead s (std.Ok n) = PlacesTo s n
PlacesRead s (std.Err r) = places_of s ≡ refused (row_of r)
