-- The loop's invariant: the positions before this one are added.
use Prim.Native.Nat.{◌+◌, ◌-◌, ◌<◌, ◌≤◌, suc, ℕ}
use borrow.Author.Rules.{rules}
use borrow.Author.Tests.{ltb-false, ltb-true}
use lib.Dec.{ltb}
use lib.ListN.{length, take}
use mathlib.Core.Bool.{Bool, cond, false, true}
use mathlib.Core.List.Memᴰ
use mathlib.Core.List.{List, [], ◌++◌, ◌∷◌, map, map-append}
use mathlib.Core.Logic.{inl}
use mathlib.Core.Path.{◌∙◌, ◌≡◌, ap, refl}
use native.Mathlib.Omega.{arith}
use Rattle.definitions.specs.Lists.{numbers_from}
use Rattle.laws.proofs.Fillings.{plain_weigh, plain_place}
use Rattle.laws.proofs.Members.{numbers_append}
use Rattle.laws.proofs.Places.{no_change, weights}
use Rattle.breakpoint_windows.proofs.AddedPlaces.{added_none, added_range, added_then, between_numbers, numbers_between}
use Rattle.breakpoint_windows.specs.Fillings.{Added, Ready}
use Rattle.breakpoint_windows.specs.declared.Taken.{Taken}
use Rattle.breakpoint_windows.proofs.add_positions.Invariants.{Inv}
use Rattle.breakpoint_windows.proofs.add_positions.Goals as goal

-- the later of a position and the one behind `past` is the least that is neither before the one nor the other
record Later (past first from : ℕ) : Type 0 where
  from_first : first ≤ from
  is_later : past < from
  least : (q : ℕ) → past < q → first ≤ q → from ≤ q

later-is : {past first from : ℕ} → from ≡ cond (ltb past first) first (suc past) → Later past first from
later-is {past} {first} {from} = go (ltb past first) refl
  where
    go : (b : Bool) → ltb past first ≡ b → from ≡ cond b first (suc past) → Later past first from
    go true e q = let k = ltb-true past first e in record { from_first = omega arith; is_later = omega arith; least = λ p h k. omega arith }
    go false e q = let k = ltb-false past first e in record { from_first = omega arith; is_later = omega arith; least = λ p h k. omega arith }

-- the positions from one to before another, and that one
one_more : (from position : ℕ) → from ≤ position → numbers_from from (position + 1 - from) ≡ numbers_from from (position - from) ++ position ∷ []
unfolding numbers_from
one_more from position h =
    let count : position + 1 - from ≡ position - from + 1 = omega arith in
    let behind : from + (position - from) ≡ position = omega arith in
    ap (numbers_from from) count ∙ rw behind at (numbers_append from (position - from) 1)

none_yet : (from : ℕ) → numbers_from from (from - from) ≡ []
unfolding numbers_from
none_yet from = let none : from - from ≡ 0 = omega arith in rw none

start : (places : List ℕ) (past behind from : ℕ) (taken : Taken) → Ready past taken places → Inv places past behind from taken places taken from
start places past behind from taken ready =
    record { long = refl; so_far = omega arith; below = λ p h k. absurd (omega arith); added = rw (none_yet from) (added_none ready) }

module _ {places₀ : List ℕ} {past behind from : ℕ} {taken : Taken} {places : List ℕ} {now : Taken} {position : ℕ}
    (inv : Inv places₀ past behind from taken places now position) (light : weights (take taken.count places₀) < no_change) where
  turn : {places' : List ℕ} {more : Taken} → position < behind → length places' ≡ length places
      → Added past now (plain_place position ∷ []) places places' more → Inv places₀ past behind from taken places' more (position + 1)
  turn h long a =
      let before = numbers_from from (position - from) in
      let both : map plain_place (before ++ position ∷ []) ≡ map plain_place before ++ plain_place position ∷ [] = map-append plain_place before (position ∷ []) in
      let still-light : weights (take taken.count places₀ ++ (map plain_place before ++ plain_place position ∷ [])) < no_change =
      rw (← both, plain_weigh (take taken.count places₀) (before ++ position ∷ [])) light in
      record {
        long = long ∙ inv.long;
        so_far = omega (arith, inv.so_far);
        below = λ p u v. omega arith;
        added = rw (one_more from position inv.so_far, both) (added_then (map plain_place before) (plain_place position ∷ []) still-light inv.added a);
      }

  -- all are added that are in the window
  ended : {first : ℕ} → Later past first from → ((q : ℕ) → q < behind → q < now.limit → q < position)
      → Added past taken (map plain_place (numbers_from first (behind - first))) places₀ places now
  ended {first} later reached =
      added_range light first behind (numbers_from from (position - from))
      (λ p m. let (h, k) = numbers_between m in (omega (arith, later.from_first), inv.below p h k))
      (λ q h k past-q below-q. inl (between_numbers (later.least q past-q h) (reached q k below-q)))
      inv.added

-- none of the positions is in the window
outside : {past : ℕ} (first behind : ℕ) {taken : Taken} {places : List ℕ} → Ready past taken places → behind ≤ past
    → Added past taken (map plain_place (numbers_from first (behind - first))) places places taken
outside {past} first behind ready h =
    added_range ready.light first behind [] (λ p m. absurd (Memᴰ.not-nil m)) (λ q a b c d. absurd (omega arith)) (added_none ready)

pub returns-then-behind-past : goal.returns-then-behind-past
returns-then-behind-past c = outside _ _ c.requires c.if-behind-past.true

pub loop-position-init : goal.loop-position-init
loop-position-init c = start _ _ _ _ _ c.requires

pub shape_of-places-then-now-position : goal.shape_of-places-then-now-position
shape_of-places-then-now-position c = c.loop-position.invariant.long

pub returns-then-now-position : goal.returns-then-now-position
returns-then-now-position c = ended c.loop-position.invariant c.requires.light (later-is c.later_of-from.ensures)
    (λ q h k. omega (arith, c.if-now-position.true))

pub overflow_mul-position : goal.overflow_mul-position
overflow_mul-position c = let small = c.loop-position.invariant.added.ready.limited in
    search rules

pub overflow_add-position : goal.overflow_add-position
overflow_add-position c = let small = c.loop-position.invariant.added.ready.limited in
    search rules

pub add_place-now-requires : goal.add_place-now-requires
add_place-now-requires c = let ready = c.loop-position.invariant.added.ready in
    record { ready = ready; place_bound = rw (plain_weigh _ (_ ∷ [])) ready.light }

pub loop-position-preserved : goal.loop-position-preserved
loop-position-preserved c = let put = c.add_place-now in
    turn c.loop-position.invariant c.requires.light c.loop-position-test.true
    put.auto.places put.ensures

pub shape_of-places : goal.shape_of-places
shape_of-places c = c.loop-position.invariant.long

pub returns : goal.returns
returns c = ended c.loop-position.invariant c.requires.light (later-is c.later_of-from.ensures)
    (λ q h k. omega (arith, c.loop-position-test.false))
