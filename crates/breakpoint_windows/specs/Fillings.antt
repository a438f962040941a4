-- The steps of filling places with breakpoints.
use Rattle.std.specs.Prelude.{◌+◌, ◌/◌, ◌<◌, ◌≤◌, suc, ℕ, leb, get_or, length, take, Bool, cond, true, List, [], ◌++◌, ◌∷◌, map, ◌⊎◌, ◌≡◌}
use Rattle.bio_ids.specs.declared.GenomeLoc.{GenomeLoc}
use Rattle.laws.proofs.Every.{Every}
use Rattle.laws.proofs.Fillings.{Filling, Inside}
use Rattle.laws.proofs.Members.{◌∈◌}
use Rattle.laws.proofs.Places.{join_places, no_change, place_at, position, weights}
use Rattle.laws.proofs.Sorted.{sorted}
use Rattle.laws.proofs.Windows.{within}
use Rattle.breakpoint_windows.specs.declared.Adding.{Adding}
use Rattle.breakpoint_windows.specs.declared.Taken.{Taken}

-- a limit past all positions, low enough that places of one position are joined in 64 bits
abbrev pub past_all : ℕ
past_all = 4294967295

-- ---- sorting and joining

-- places that can be joined: their changes of depth are few, and each has a position
pub record Joinable (places : List ℕ) : Type 0 where
  pub light : weights places < no_change
  pub small : Every (λ e. position e < past_all) places

-- the first `count` places are sorted and joined
pub record Settled (entry : List ℕ) (count : ℕ) (exit : List ℕ) (r : ℕ) : Type 0 where
  pub few : r ≤ count
  pub joined : take r exit ≡ join_places (sorted (take count entry))

-- ---- room for more, where all places are taken

-- sorted and joined they leave room enough: a quarter of the places is free
unfoldable pub leaves_room : List ℕ → Bool
leaves_room places = leb (length (join_places (sorted places))) (length places / 2 + length places / 4)

-- what stays: all of them, or else as many of the lower ones as half of the places hold
unfoldable pub room_made : List ℕ → List ℕ
room_made places =
    let stored = join_places (sorted places) in
    cond (leaves_room places) stored (take (length places / 2) stored)

-- the limit then: as it was, or the position of the first one dropped
unfoldable pub limit_made : List ℕ → ℕ → ℕ
limit_made places limit =
    let dropped = get_or (join_places (sorted places)) (length places / 2) 0 in
    cond (leaves_room places) limit (position dropped)

pub record RoomMade (limit : ℕ) (entry exit : List ℕ) (r : Taken) : Type 0 where
  pub counted : r.count ≡ length (room_made entry)
  pub kept : take r.count exit ≡ room_made entry
  pub limited : r.limit ≡ limit_made entry limit

-- ---- adding places

-- places that are taken: each in the window, and joinable
pub record Ready (past : ℕ) (taken : Taken) (places : List ℕ) : Type 0 where
  pub room : 2 ≤ length places
  pub within_places : taken.count ≤ length places
  pub limited : taken.limit ≤ past_all
  pub inside : Every (λ e. within past taken.limit (position e) ≡ true) (take taken.count places)
  pub light : weights (take taken.count places) < no_change

-- What is at hand stands for all that was given, below the limit; which is as it was, or the position of a place given, and then some place
-- is at hand.
pub record Fills (past limit : ℕ) (given : List ℕ) (lower : ℕ) (content : List ℕ) : Type 0 where
  pub filling : Filling past lower given content
  pub limited : (lower ≡ limit) ⊎ ((0 < length content) × Inside past limit given lower)

-- these places are added to those taken
pub record Added (past : ℕ) (taken : Taken) (es entry exit : List ℕ) (r : Taken) : Type 0 where
  pub ready : Ready past r exit
  pub fills : Fills past taken.limit (take taken.count entry ++ es) r.limit (take r.count exit)

-- every position of the run that is in the window is at hand
pub record RunTaken (past : ℕ) (adding : Adding) (places : List ℕ) : Type 0 where
  pub at_hand : (p : ℕ) → adding.run.first ≤ p → p < adding.run.behind → within past adding.taken.limit p ≡ true
      → p ∈ map position (take adding.taken.count places)

-- these places are added, and the run is taken
pub record AddedRun (past : ℕ) (adding : Adding) (es entry exit : List ℕ) (r : Adding) : Type 0 where
  pub added : Added past adding.taken es entry exit r.taken
  pub run : RunTaken past r exit

-- from no place taken on, these places are added
pub record FromNone (past : ℕ) (es exit : List ℕ) (r : Taken) : Type 0 where
  pub ready : Ready past r exit
  pub fills : Fills past past_all es r.limit (take r.count exit)

-- what a clip span gives: a place where the depth goes up, and behind its end one where it goes down; nothing if it is on another contig
unfoldable pub span_gives : Bool → GenomeLoc → List ℕ
span_gives on loc = cond on (place_at loc.start.0 2147483649 ∷ place_at (suc loc.end.0) 2147483647 ∷ []) []
