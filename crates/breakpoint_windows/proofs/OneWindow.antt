-- What one filling comes to: the places of a window, whether there are more, and whether there is one.
use Prim.Native.Nat.{◌*◌, ◌<◌, ◌≤◌, compare, ℕ}
use borrow.Author.Tests.{le-ltb, lt-ltb}
use lib.Dec.{ltb}
use lib.ListN.{length, length-map, take}
use lib.Seq.{length-take-le}
use mathlib.Core.List.{List, ◌++◌, flat_map, map}
use mathlib.Core.Logic.{⊎_elim}
use mathlib.Core.Path.{◌∙◌, ◌≡◌, ap, subst, sym}
use native.Mathlib.Omega.{arith}
use Rattle.definitions.specs.ClipAndReference.{Span}
use Rattle.definitions.specs.Intervals.{span_breakpoints}
use Rattle.definitions.specs.Lists.{ascending, filter_by}
use Rattle.laws.proofs.Every.{Every, Pairwise}
use Rattle.laws.proofs.Fillings.{Inside, filled, given_places_lem, given_weigh, given_places, place_of, position_of_place}
use Rattle.laws.proofs.Members.{◌∈◌, member_map}
use Rattle.laws.proofs.Orders.{ascending_member, ascending_numbers, compare_eq}
use Rattle.laws.proofs.Places.{join_some, join_places, no_change, places, places_positions, position, weights}
use Rattle.laws.proofs.Sorted.{sorted, sorted_length}
use Rattle.laws.proofs.Windows.{last_window, limit_behind, whole_window, window, window_some, window_end}
use Rattle.breakpoint_windows.specs.Fillings.{Fills, past_all}

-- breakpoints of sites, and those of spans
abbrev breakpoints_of : List ℕ → List Span → List ℕ
breakpoints_of bs spans = ascending compare (bs ++ flat_map span_breakpoints spans)

module _ (bs : List ℕ) (spans : List Span) (light : 2 * length spans < no_change) where
  light_given : weights (given_places bs spans) < no_change
  light_given = rw (given_weigh bs spans) light

  -- the position of a given place is a breakpoint
  given_breakpoint : {p : ℕ} → p ∈ map position (given_places bs spans) → p ∈ breakpoints_of bs spans
  given_breakpoint {p} m =
      let breakpoints = breakpoints_of bs spans in
      let there : p ∈ map position (places (given_places bs spans)) =
      subst (λ (l : List ℕ). p ∈ l) (sym (places_positions (given_places bs spans) light_given)) (ascending_member compare compare_eq _ m) in
      let (e, n, same) = member_map position (map (place_of spans) breakpoints) (rw (given_places_lem bs spans light) at there) in
      let (b, k, is) = member_map (place_of spans) breakpoints n in
      let q : p ≡ b = same ∙ ap (λ (e : ℕ). position e) is ∙ position_of_place spans light b in
      subst (λ (b : ℕ). b ∈ breakpoints) (sym q) k

  module _ (below : Every (λ b. b < past_all) (breakpoints_of bs spans))
      (past : ℕ) {limit : ℕ} {content : List ℕ} (f : Fills past past_all (given_places bs spans) limit content) where
    ordered : Pairwise ◌<◌ (breakpoints_of bs spans)
    ordered = ascending_numbers (bs ++ flat_map span_breakpoints spans)

    below_limit : limit ≡ past_all → Every (λ b. b < limit) (breakpoints_of bs spans)
    below_limit e = rw e below

    -- there are more exactly if the limit was lowered
    pub more_behind :
        let all = breakpoints_of bs spans in
        ltb limit past_all ≡ ltb 0 (length (filter_by (ltb (window_end past (window past limit all))) all))
    more_behind =
        let all = breakpoints_of bs spans in
        ⊎_elim
        (λ (e : limit ≡ past_all).
        rw (last_window ordered past limit (below_limit e)) (le-ltb limit past_all (omega arith) ∙ sym (le-ltb 0 0 (omega arith))))
        (λ (d : (0 < length content) × Inside past past_all (given_places bs spans) limit).
        lt-ltb limit past_all d.1.below ∙ sym (limit_behind ordered past limit (given_breakpoint d.1.is_given) d.1.later))
        f.limited

    module _ (exit : List ℕ) {r : ℕ} (room : r ≤ length exit) (joined : take r exit ≡ join_places (sorted content)) where
      pub stored : take r exit ≡ map (place_of spans) (window past limit (breakpoints_of bs spans))
      stored = joined ∙ filled past limit bs spans light f.filling

      counted : r ≡ length (window past limit (breakpoints_of bs spans))
      counted = sym (length-take-le r exit room) ∙ ap length stored ∙ length-map (window past limit (breakpoints_of bs spans)) (place_of spans)

      -- there is one if there is one past the position
      pub one_there : ltb 0 r ≡ ltb 0 (length (filter_by (ltb past) (breakpoints_of bs spans)))
      one_there =
          let all = breakpoints_of bs spans in
          ⊎_elim
          (λ (e : limit ≡ past_all). ap (ltb 0) (counted ∙ ap length (whole_window ordered past limit (below_limit e))))
          (λ (d : (0 < length content) × Inside past past_all (given_places bs spans) limit).
          let still : 0 < length (sorted content) = omega (arith, sorted_length content, d.0) in
          let some_stored : 0 < r = omega (arith, length-take-le r exit room, ap length joined, join_some (sorted content) still) in
          let some_there = window_some ordered past limit (omega (arith, counted)) in
          lt-ltb 0 r some_stored ∙ sym (lt-ltb 0 (length (filter_by (ltb past) all)) some_there))
          f.limited
