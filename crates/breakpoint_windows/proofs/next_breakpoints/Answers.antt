-- What the sites give, and then what the clip's spans give, sorted and joined.
use Prim.Native.Nat.{◌<◌, ◌≤◌, ℕ}
use borrow.Author.Rules.{rules}
use lib.Dec.{ltb}
use lib.ListN.{length, take}
use mathlib.Core.List.{List, [], ◌++◌, flat_map, map}
use mathlib.Core.Path.{◌∙◌, ◌≡◌}
use native.Mathlib.Omega.{arith}
use Rattle.definitions.specs.Limits.{max_text_length}
use Rattle.laws.proofs.Every.{Every}
use Rattle.laws.proofs.Fillings.{given_weigh, given_places, plain_weigh, plain_place, span_places}
use Rattle.laws.proofs.Places.{no_change, weights, weights_append}
use Rattle.breakpoint_windows.proofs.AddedPlaces.{joinable}
use Rattle.breakpoint_windows.proofs.Fills.{fills_then}
use Rattle.breakpoint_windows.proofs.InRange.{all_below, spans_few, spans_sound}
use Rattle.breakpoint_windows.proofs.OneWindow.{more_behind, one_there, stored}
use Rattle.breakpoint_windows.specs.Breakpoints.{NextBreakpoints, RowInRange, all_breakpoints, row_breakpoints, spans_of}
use Rattle.breakpoint_windows.specs.Fillings.{Added, Fills, FromNone, Settled, past_all}
use Rattle.breakpoint_windows.specs.declared.Taken.{Taken}
use Rattle.breakpoint_windows.proofs.next_breakpoints.Goals as goal

module _ (rows sites clip contig : List ℕ) (short : length clip ≤ max_text_length) {past : ℕ} {between : List ℕ} {sited : Taken}
    (a : FromNone past (map plain_place (flat_map (row_breakpoints rows) sites)) between sited) where
  -- the spans change the depth little enough
  light : weights (take sited.count between ++ flat_map span_places (spans_of clip contig)) < no_change
  unfolding given_places weights
  light =
      let bs = flat_map (row_breakpoints rows) sites in
      let spans = spans_of clip contig in
      omega (
        arith,
        spans_few clip contig short,
        a.fills.filling.light,
        given_weigh bs spans,
        plain_weigh [] bs,
        weights_append (map plain_place bs) (flat_map span_places spans),
        weights_append (take sited.count between) (flat_map span_places spans),
      )

  module _ {middle : List ℕ} {taken : Taken} (b : Added past sited (flat_map span_places (spans_of clip contig)) between middle taken) where
    both : Fills past past_all (given_places (flat_map (row_breakpoints rows) sites) (spans_of clip contig)) taken.limit (take taken.count middle)
    unfolding given_places
    both =
        let bs = flat_map (row_breakpoints rows) sites in
        let spans = spans_of clip contig in
        let light_given : weights (map plain_place bs ++ flat_map span_places spans) < no_change =
        omega (arith, spans_few clip contig short, given_weigh bs spans) in
        fills_then past past_all (flat_map span_places spans) light_given a.fills b.fills

    windowed : {entry exit : List ℕ} {r : ℕ} → Every (RowInRange rows) sites → length exit ≡ length entry → taken.count ≤ length entry
        → Settled middle taken.count exit r
        → NextBreakpoints (all_breakpoints rows sites (spans_of clip contig)) (spans_of clip contig) past entry exit
        (record { count = r; more = ltb taken.limit past_all })
    unfolding all_breakpoints
    windowed {exit = exit} {r = r} in_range_lem long fits s =
        let bs = flat_map (row_breakpoints rows) sites in
        let spans = spans_of clip contig in
        let few = spans_few clip contig short in
        let below = all_below in_range_lem (spans_sound clip contig) in
        let room : r ≤ length exit = omega (arith, s.few) in
        record {
          limit = taken.limit;
          stored = stored bs spans few below past both exit room s.joined;
          room = omega (arith, s.few);
          long = long;
          more = more_behind bs spans few below past both;
          some_there = one_there bs spans few below past both exit room s.joined;
        }

pub add_spans-taken-requires : goal.add_spans-taken-requires
add_spans-taken-requires c = let sited = c.add_sites-of_sites in
    record { ready = sited.ensures.ready; contig_bound = light _ _ _ _ c.requires.clip_len_bound sited.ensures }

pub settle-count-requires : goal.settle-count-requires
settle-count-requires c = let ready = c.add_spans-taken.ensures.ready in
    record { count_in_bounds = ready.within_places; joinable = joinable ready }

pub returns : goal.returns
returns c = let settled = c.settle-count in
    let spanned = c.add_spans-taken in
    let sited = c.add_sites-of_sites in
    let long = spanned.auto.places ∙ sited.auto.places in
    windowed _ _ _ _ c.requires.clip_len_bound sited.ensures spanned.ensures c.requires.every (settled.auto.places ∙ long)
    (omega (arith, long, spanned.ensures.ready.within_places)) settled.ensures
