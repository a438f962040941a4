-- Adding places to those taken: one place, places one after the other, and a run of positions.
use Prim.Native.Nat.{◌+◌, ◌-◌, ◌<◌, ◌≤◌, ℕ}
use borrow.Author.Tests.{le-ltb, lt-ltb, ltb-true}
use lib.Dec.{ltb}
use lib.ListN.{length, length-set, set, take}
use lib.Seq.{take_all, take-suc-set}
use mathlib.Core.Bool.{Bool, ◌&&◌, false, true}
use mathlib.Core.List.Memᴰ
use mathlib.Core.List.{List, [], ◌++◌, ◌∷◌, append_assoc, append-nil, map, map-append}
use mathlib.Core.Logic.{◌⊎◌}
use mathlib.Core.Path.{◌≡◌, refl, subst}
use native.Mathlib.Numerals.{add-one}
use native.Mathlib.Omega.{arith}
use Rattle.definitions.specs.Lists.{numbers_from}
use Rattle.laws.proofs.Every.{every_map}
use Rattle.laws.proofs.Fillings.{filling_keeps, plain_weigh, plain_place}
use Rattle.laws.proofs.Members.{◌∈◌, member_numbers, numbers_member}
use Rattle.laws.proofs.Places.{no_change, position, position_at, weights}
use Rattle.laws.proofs.Tests.{both, both_of}
use Rattle.laws.proofs.Windows.{within}
use Rattle.breakpoint_windows.proofs.Fills.{fills_in, fills_inside, fills_lower, fills_out, fills_plain, fills_self, fills_then, room_fills, room_left}
use Rattle.breakpoint_windows.specs.Fillings.{Added, Fills, Joinable, Ready, RoomMade, past_all}
use Rattle.breakpoint_windows.specs.declared.Taken.{Taken}

-- a position before the window, behind it, or in it
module _ (past limit p : ℕ) where
  pub before_window : p ≤ past → within past limit p ≡ false
  before_window h = rw (le-ltb past p h)

  pub behind_window : limit ≤ p → within past limit p ≡ false
  behind_window h = rw (le-ltb p limit h) (go (ltb past p))
    where
      go : (b : Bool) → b && false ≡ false
      go true = refl
      go false = refl

  pub in_window : past < p → p < limit → within past limit p ≡ true
  in_window h k = both (lt-ltb past p h) (lt-ltb p limit k)

-- what fills the window is ready for more
pub added : {past : ℕ} {taken r : Taken} {es entry exit : List ℕ} → 2 ≤ length exit → r.count ≤ length exit → taken.limit ≤ past_all
    → weights (take taken.count entry ++ es) < no_change
    → Fills past taken.limit (take taken.count entry ++ es) r.limit (take r.count exit) → Added past taken es entry exit r
added two room small light f = record {
  ready = record {
    room = two;
    within_places = room;
    limited = omega (arith, fills_lower f);
    inside = fills_inside f light;
    light = omega (arith, f.filling.light);
  };
  fills = f;
}

module _ {past : ℕ} {taken : Taken} {places : List ℕ} (ready : Ready past taken places) where
  self : Fills past taken.limit (take taken.count places) taken.limit (take taken.count places)
  self = fills_self past taken.limit ready.inside

  -- the places taken can be joined
  pub joinable : Joinable (take taken.count places)
  joinable = record {
    light = ready.light;
    small = every_map (λ e k.
        let below = ltb-true (position e) taken.limit (both_of (ltb past (position e)) (ltb (position e) taken.limit) k).1 in
        omega (arith, ready.limited)) ready.inside;
  }

  -- no place more
  pub added_none : Added past taken [] places places taken
  added_none = record { ready = ready; fills = rw (append-nil (take taken.count places)) self }

  -- all places are taken
  module _ (full : length places ≤ taken.count) where
    all_taken : take taken.count places ≡ places
    all_taken = take_all taken.count places full

    pub joinable_all : Joinable places
    joinable_all = rw all_taken at joinable

    -- room is made
    module _ {exit : List ℕ} {room : Taken} (made : RoomMade taken.limit places exit room) (long : length exit ≡ length places) where
      pub has_room : room.count < length exit
      has_room = omega (arith, made.counted, room_left places ready.room)

      made_fills : Fills past taken.limit (take taken.count places) room.limit (take room.count exit)
      made_fills =
          rw (made.limited, made.kept, all_taken)
          (room_fills places ready.room past taken.limit (rw all_taken at ready.light) (rw all_taken at ready.inside))

      -- one place more
      module _ (e : ℕ) (light : weights (take taken.count places ++ e ∷ []) < no_change) where
        pub passed_full : within past room.limit (position e) ≡ false → Added past taken (e ∷ []) places exit room
        passed_full k =
            added (omega (arith, long, ready.room)) (omega (arith, has_room)) ready.limited light (fills_out made_fills e light k)

        pub stored_full : within past room.limit (position e) ≡ true
            → Added past taken (e ∷ []) places (set exit room.count e) (record { count = room.count + 1; limit = room.limit })
        stored_full k =
            added (simp length-set (omega (arith, long, ready.room))) (simp length-set (omega (arith, has_room))) ready.limited light
            (rw (add-one room.count, take-suc-set exit room.count e has_room) (fills_in made_fills e light k))

  -- one place more, where there is room
  module _ (e : ℕ) (light : weights (take taken.count places ++ e ∷ []) < no_change) where
    pub passed : within past taken.limit (position e) ≡ false → Added past taken (e ∷ []) places places taken
    passed k = record { ready = ready; fills = fills_out self e light k }

    pub stored : taken.count < length places → within past taken.limit (position e) ≡ true
        → Added past taken (e ∷ []) places (set places taken.count e) (record { count = taken.count + 1; limit = taken.limit })
    stored h k =
        added (simp length-set ready.room) (simp length-set (omega arith)) ready.limited light
        (rw (add-one taken.count, take-suc-set places taken.count e h) (fills_in self e light k))

-- places one after the other
pub added_then : {past : ℕ} {taken mid r : Taken} (es fs : List ℕ) {entry between exit : List ℕ}
    → weights (take taken.count entry ++ (es ++ fs)) < no_change
    → Added past taken es entry between mid → Added past mid fs between exit r → Added past taken (es ++ fs) entry exit r
added_then {past} {taken} es fs {entry} light a b = record {
  ready = b.ready;
  fills = rw (← append_assoc (take taken.count entry) es fs)
      (fills_then past taken.limit fs (rw (append_assoc (take taken.count entry) es fs) light) a.fills b.fills);
}

-- ---- plain places

-- the positions from one to before another
pub numbers_between : {first behind q : ℕ} → q ∈ numbers_from first (behind - first) → (first ≤ q) × (q < behind)
numbers_between {first} {behind} m = let (h, k) = member_numbers first (behind - first) m in (h, omega arith)

pub between_numbers : {first behind q : ℕ} → first ≤ q → q < behind → q ∈ numbers_from first (behind - first)
between_numbers {first} {behind} h k = numbers_member first (behind - first) h (omega arith)

module _ {past : ℕ} {taken r : Taken} {entry exit : List ℕ} (light : weights (take taken.count entry) < no_change) where
  -- Positions are added if each that is in the window is added, or was taken before.
  pub added_range : (first behind : ℕ) (ps : List ℕ) → ((p : ℕ) → p ∈ ps → (first ≤ p) × (p < behind))
      → ((q : ℕ) → first ≤ q → q < behind → past < q → q < r.limit → (q ∈ ps) ⊎ (q ∈ map position (take taken.count entry)))
      → Added past taken (map plain_place ps) entry exit r
      → Added past taken (map plain_place (numbers_from first (behind - first))) entry exit r
  added_range first behind ps only each a = record {
    ready = a.ready;
    fills = fills_plain past taken.limit (take taken.count entry) ps (numbers_from first (behind - first))
        (λ p m. let (h, k) = only p m in between_numbers h k)
        (λ q m inside.
        let (h, k) = numbers_between m in
        let (later, below) = both_of (ltb past q) (ltb q r.limit) inside in
        each q h k (ltb-true past q later) (ltb-true q r.limit below))
        light a.fills;
  }

  module _ (ps : List ℕ) (a : Added past taken (map plain_place ps) entry exit r) {p : ℕ} (inside : within past r.limit p ≡ true) where
    still : p ∈ map position (take taken.count entry ++ map plain_place ps) → p ∈ map position (take r.count exit)
    still m = filling_keeps past r.limit a.fills.filling (rw (plain_weigh (take taken.count entry) ps) light) m inside

    -- a position that was taken is taken still, if it is in the window
    pub still_taken : p ∈ map position (take taken.count entry) → p ∈ map position (take r.count exit)
    still_taken m = still (rw (map-append position (take taken.count entry) (map plain_place ps)) (Memᴰ.append_left _ m))

    -- and so is one that is added
    pub is_taken : p ∈ ps → p ∈ map position (take r.count exit)
    is_taken m =
        let added_place : position (plain_place p) ∈ map position (take taken.count entry ++ map plain_place ps) =
        Memᴰ.map position (Memᴰ.append_right (take taken.count entry) (Memᴰ.map plain_place m)) in
        still (subst (λ (q : ℕ). q ∈ map position (take taken.count entry ++ map plain_place ps)) (position_at p no_change (omega arith)) added_place)
