-- The span is on another contig, or its start and the position behind its end are added.
use Prim.Native.Nat.{◌+◌, ◌<◌, ℕ}
use borrow.Author.Rules.{rules}
use borrow.Author.Tests.{not-false, not-true}
use lib.ListN.{take}
use mathlib.Core.Bool.{Bool, false, true}
use mathlib.Core.List.{List, [], ◌++◌, ◌∷◌}
use mathlib.Core.Path.{◌≡◌}
use native.Mathlib.Numerals.{add-one}
use native.Mathlib.Omega.{arith}
use Rattle.bio_ids.specs.declared.GenomeLoc.{GenomeLoc}
use Rattle.definitions.specs.Numbers.{max_number}
use Rattle.laws.proofs.Places.{no_change, place_at, weights, weights_append}
use Rattle.breakpoint_windows.proofs.AddedPlaces.{added_none, added_then}
use Rattle.breakpoint_windows.specs.Fillings.{Added, Ready, span_gives}
use Rattle.breakpoint_windows.specs.declared.Taken.{Taken}
use Rattle.breakpoint_windows.proofs.add_span.Goals as goal

-- nothing is given
other_contig : {past : ℕ} {taken : Taken} {places : List ℕ} {on : Bool} (loc : GenomeLoc) → Ready past taken places → on ≡ false
    → Added past taken (span_gives on loc) places places taken
unfolding span_gives
other_contig loc ready o = rw o (added_none ready)

module _ (on : Bool) (loc : GenomeLoc) {start end : ℕ} (o : on ≡ true) (s : start ≡ loc.start.0) (e : end ≡ loc.end.0) where
  gives : span_gives on loc ≡ place_at start 2147483649 ∷ place_at (end + 1) 2147483647 ∷ []
  unfolding span_gives
  gives = rw (o, s, e, add-one loc.end.0)

  module _ (taken : Taken) (places : List ℕ) (light : weights (take taken.count places ++ span_gives on loc) < no_change) where
    light-both : weights (take taken.count places ++ (place_at start 2147483649 ∷ place_at (end + 1) 2147483647 ∷ [])) < no_change
    light-both = rw gives at light

    light-start : weights (take taken.count places ++ place_at start 2147483649 ∷ []) < no_change
    unfolding weights
    light-start = omega (
      arith,
      light-both,
      weights_append (take taken.count places) (place_at start 2147483649 ∷ place_at (end + 1) 2147483647 ∷ []),
      weights_append (take taken.count places) (place_at start 2147483649 ∷ []),
    )

    module _ {past : ℕ} {between : List ℕ} {started : Taken} (a : Added past taken (place_at start 2147483649 ∷ []) places between started) where
      light-end : weights (take started.count between ++ place_at (end + 1) 2147483647 ∷ []) < no_change
      unfolding weights
      light-end = omega (
        arith,
        light-both,
        a.fills.filling.light,
        weights_append (take taken.count places) (place_at start 2147483649 ∷ place_at (end + 1) 2147483647 ∷ []),
        weights_append (take taken.count places) (place_at start 2147483649 ∷ []),
        weights_append (take started.count between) (place_at (end + 1) 2147483647 ∷ []),
      )

      both-added : {exit : List ℕ} {r : Taken} → Added past started (place_at (end + 1) 2147483647 ∷ []) between exit r
          → Added past taken (span_gives on loc) places exit r
      both-added b = rw gives (added_then (place_at start 2147483649 ∷ []) (place_at (end + 1) 2147483647 ∷ []) light-both a b)

pub returns-then-not-on : goal.returns-then-not-on
returns-then-not-on c = other_contig _ c.requires.ready (c.if-not-on.true)

pub overflow_add-next : goal.overflow_add-next
unfolding max_number
overflow_add-next c = let in_range_lem = c.requires.start_le_max_number in
    let is = c.get-next.ensures in
    search rules

pub overflow_mul-start : goal.overflow_mul-start
unfolding max_number
overflow_mul-start c = let in_range_lem = c.requires.start_le_max_number in
    let is = c.get-start.ensures in
    search rules

pub overflow_add-start : goal.overflow_add-start
unfolding max_number
overflow_add-start c = let in_range_lem = c.requires.start_le_max_number in
    let is = c.get-start.ensures in
    search rules

pub add_place-started-requires : goal.add_place-started-requires
add_place-started-requires c = let args = c.args in
    let on = c.if-not-on.false in
    let light =
    light-start args.on args.loc on c.get-start.ensures c.get-next.ensures args.taken args.places.now in
    record { ready = c.requires.ready; place_bound = light c.requires.loc_bound }

pub overflow_mul-next : goal.overflow_mul-next
unfolding max_number
overflow_mul-next c = let in_range_lem = c.requires.start_le_max_number in
    let is = c.get-next.ensures in
    search rules

pub overflow_add-next-2 : goal.overflow_add-next-2
unfolding max_number
overflow_add-next-2 c = let in_range_lem = c.requires.start_le_max_number in
    let is = c.get-next.ensures in
    search rules

pub add_place-requires : goal.add_place-requires
add_place-requires c = let put = c.add_place-started in
    let light = c.requires.loc_bound in
    record { ready = put.ensures.ready; place_bound = light-end _ _ (c.if-not-on.false) c.get-start.ensures c.get-next.ensures _ _ light put.ensures }

pub returns : goal.returns
returns c = let put = c.add_place-started in
    let light = c.requires.loc_bound in
    both-added _ _ (c.if-not-on.false) c.get-start.ensures c.get-next.ensures _ _ light put.ensures
    c.add_place.ensures
