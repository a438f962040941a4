-- What the steps of a search answer, and what a call promises.
use Rattle.std.specs.Prelude.{◌<◌, ◌≤◌, ℕ, leb, length, take, Bool, false, List, [], ◌∷◌, ◌≡◌}
use Rattle.std.proofs.lemmas.List.Edits.{sets}
use Rattle.std.specs.Prelude as std
use Rattle.answers.specs.Answered.{checked_of, row_of}
use Rattle.answers.specs.declared.Refusal.{Refusal}
use Rattle.asked_places.specs.Asked.{place_with}
use Rattle.definitions.specs.Answers.{output_after}
use Rattle.definitions.specs.Checked.{Checked, ◌>>=◌, ◌>>◌, accepted, refused, require}
use Rattle.definitions.specs.Limits.{max_samples}
use Rattle.definitions.specs.LookUp as definitions
use Rattle.definitions.specs.LookUp.{Place, found_numbers, look_up_within, not_after, numbers_written, places_of}
use Rattle.definitions.specs.Records.{Record}
use Rattle.list_reader.specs.declared.PreviousRecord.{PreviousRecord}
use Rattle.list_walk.specs.Walk.{StandsBehind, groups_at, start_of}
use Rattle.list_walk.specs.declared.ListHeader.{ListHeader}
use Rattle.position_lookup.specs.Search.{look_on, read_until}
use Rattle.position_lookup.specs.declared.LookedUp.{LookedUp}
use Rattle.position_lookup.specs.declared.Search.{Search}
use Rattle.site_groups.specs.SiteGroups.{bytes_of}

-- ---- one place

-- what stands for the record read last reaches the place
abbrev pub reached_last : List ℕ → std.Option PreviousRecord → Place → Bool
reached_last s std.None p = false
reached_last s (std.Some last) p = not_after p (place_with (bytes_of s last.contig) last.end)

-- the nearest of these records begins there
unfoldable pub FirstOf : List Record → ℕ → Type 0
FirstOf [] first = Unit {0}
FirstOf (r ∷ rs) first = r.pos ≡ first

-- the search stands behind these records, the nearest first
pub record StandsAt (s : List ℕ) (before : List Record) (w : Search) : Type 0 where
  pub cursor : StandsBehind s before w.cursor
  pub first : FirstOf before w.first.0

-- it stands behind some
pub record Stands (s : List ℕ) (w : Search) : Type 0 where
  pub before : List Record
  pub at : StandsAt s before w

-- groups were read until a record reaches the place, and the search stands behind it
pub record ReachedAt (s : List ℕ) (h : ListHeader) (w : Search) (p : Place) (before : List Record) (w' : Search) : Type 0 where
  pub read : List Record
  pub value : read_until h.samples h.records p before (groups_at s h w.cursor)
      ≡ accepted (record { read = read; left = groups_at s h w'.cursor })
  pub at : StandsAt s read w'

unfoldable pub Reaches : List ℕ → ListHeader → Search → Place → std.Result Search Refusal → Type 0
Reaches s h w p (std.Ok w') = (before : List Record) → StandsAt s before w → ReachedAt s h w p before w'
Reaches s h w p (std.Err r) = (before : List Record) → StandsAt s before w
    → read_until h.samples h.records p before (groups_at s h w.cursor) ≡ refused (row_of r)

-- ---- all places

-- the text asks for these places, so many, and the list has no more samples than it may
pub record PairsReady (asked : List ℕ) (h : ListHeader) : Type 0 where
  pub places : List Place
  pub value : places_of asked ≡ accepted places
  pub few : h.samples ≤ max_samples

-- the places looked up in the record groups behind a header
abbrev pub search_of : List ℕ → ListHeader → List Place → Checked definitions.LookedUp
search_of s h places = look_on h.samples h.records places (record { read = []; left = groups_at s h (start_of h) })

-- they are answered, so many groups were read, and the table has the numbers at its front
pub record PairsFound (search : Checked definitions.LookedUp) (found₀ found : List ℕ) (groups : ℕ) : Type 0 where
  pub answer : definitions.LookedUp
  pub value : search ≡ accepted answer
  pub groups_are : groups ≡ answer.groups
  pub stored : found ≡ sets found₀ 0 (found_numbers answer.found)

unfoldable pub PairsSearched : Checked definitions.LookedUp → List ℕ → List ℕ → std.Result ℕ Refusal → Type 0
PairsSearched search found₀ found (std.Ok n) = PairsFound search found₀ found n
PairsSearched search found₀ found (std.Err r) = search ≡ refused (row_of r)

-- ---- the answer of a call

-- how many pairs there are, and how many record groups were read for them
unfoldable pub counts_of : Checked definitions.LookedUp → Checked LookedUp
counts_of (refused n) = refused n
counts_of (accepted l) = accepted (record { pairs = length l.found; groups = l.groups })

-- the answer and the output are those of what was looked up
pub record Gives (m : Checked definitions.LookedUp) (out out' : List ℕ) (r : std.Result LookedUp Refusal) : Type 0 where
  pub answer : checked_of r ≡ counts_of m
  pub written : out' ≡ output_after (numbers_written m) out

-- row 14, last
abbrev pub with_room : ℕ → Checked definitions.LookedUp → Checked definitions.LookedUp
with_room out_length m = m >>= λ l. require 14 (leb (length l.found) out_length) >> accepted l

-- what a call promises
abbrev pub LookUpAnswered : List ℕ → List ℕ → List ℕ → List ℕ → std.Result LookedUp Refusal → Type 0
LookUpAnswered s asked out out' r = Gives (look_up_within s asked (length out)) out out' r

-- the numbers at the table's front are given, if the output has so many places
unfoldable pub FoundGiven : List ℕ → ℕ → ℕ → List ℕ → List ℕ → std.Result LookedUp Refusal → Type 0
FoundGiven found count groups out out' (std.Ok l) =
    (l.pairs ≡ count) × (l.groups ≡ groups) × (count ≤ length out) × (out' ≡ sets out 0 (take count found))
FoundGiven found count groups out out' (std.Err r) = (row_of r ≡ 14) × (length out < count) × (out' ≡ out)

-- the text asks for these places, so many
pub record PlacesReady (asked : List ℕ) (count : ℕ) : Type 0 where
  pub places : List Place
  pub value : places_of asked ≡ accepted places
  pub counted : count ≡ length places
