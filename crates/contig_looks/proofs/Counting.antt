-- The intervals that are left from a breakpoint on, and how the count goes on from place to place and from window to window.
use Prim.Native.Nat.{◌*◌, ◌%◌, ◌+◌, ◌-◌, ◌/◌, ◌<◌, ◌≤◌, suc, ℕ}
use borrow.Author.Tests.{le-ltb, lt-ltb}
use lib.Dec.{ltb}
use lib.ListN.{drop, drop_of_length-le, get_or, length, take}
use lib.Seq.{drop-cons}
use mathlib.Core.Bool.{Bool, ◌&&◌, ◌||◌, cond, false, not, true}
use mathlib.Core.List.{List, [], ◌∷◌}
use mathlib.Core.Path.{◌∙◌, ◌≡◌, ap, refl, subst, sym}
use native.Mathlib.Nat.{mul-le-mul}
use native.Mathlib.Numerals.{add-one}
use native.Mathlib.Omega.{arith}
use Rattle.breakpoint_windows.proofs.ContigWindows.{breakpoints_above, contig_window, depth_at_0, depth_next, empty_end, goes_on, inside_by_depth, rest_end, rest_window, same_window, step}
use Rattle.breakpoint_windows.specs.Breakpoints.{NextBreakpoints, all_breakpoints, spans_of}
use Rattle.breakpoint_windows.specs.Contig.{ContigWindow, contig_window_end}
use Rattle.breakpoint_windows.specs.declared.Window.{Window}
use Rattle.definitions.specs.Bytes.{same_bytes}
use Rattle.definitions.specs.Cohort.{Site}
use Rattle.definitions.specs.CombinedList.{Input}
use Rattle.definitions.specs.Intervals.{Interval, breakpoints, clipped_intervals, in_clip, intervals_between, sites_on}
use Rattle.definitions.specs.Lists.{filter_by}
use Rattle.definitions.specs.Looks.{contig_looks}
use Rattle.laws.proofs.ClipDepth.{count_cons, one}
use Rattle.laws.proofs.Every.{every_member}
use Rattle.laws.proofs.Members.{filter_all, filter_few}
use Rattle.laws.proofs.Places.{position}
use Rattle.laws.proofs.RecordCount.{intervals_bound}
use Rattle.laws.proofs.SoundInput.{SoundInput}
use Rattle.contig_looks.specs.Counting.{CountReady, CountedTo, LooksReady, SoFar, intervals_from}
use Rattle.contig_looks.specs.declared.Along.{Along}

-- ---- the intervals that are left

module _ (x : Input) (contig : List ℕ) where
  abbrev points : List ℕ
  points = breakpoints x.cohort.sites x.clip contig

  -- from position 0 on they are all
  from_start : SoundInput x → intervals_from x contig 0 ≡ length (clipped_intervals x.cohort.sites x.clip contig)
  unfolding intervals_from clipped_intervals
  from_start sound =
      ap (λ (l : List ℕ). length (filter_by (in_clip contig x.clip) (intervals_between l)))
      (filter_all (ltb 0) points (λ b m. lt-ltb 0 b (every_member m (breakpoints_above sound contig))))

  -- from a breakpoint to the next: one less, if there is an interval between them and it lies in the clip
  from_turn : (past b : ℕ) → past < b → filter_by (ltb past) points ≡ b ∷ filter_by (ltb b) points
      → intervals_from x contig past ≡ one (ltb 0 past && in_clip contig x.clip (record { first = past; last = b - 1 })) + intervals_from x contig b
  unfolding intervals_from intervals_between
  from_turn past b later next = rw (next, lt-ltb 0 b (omega arith)) (go (ltb 0 past))
    where
      rest : List ℕ
      rest = b ∷ filter_by (ltb b) points

      left : List ℕ → ℕ
      left l = length (filter_by (in_clip contig x.clip) (intervals_between l))

      go : (t : Bool) → left (cond t (past ∷ rest) rest) ≡ one (t && in_clip contig x.clip (record { first = past; last = b - 1 })) + left rest
      go true = count_cons (in_clip contig x.clip) (record { first = past; last = b - 1 }) (intervals_between rest)
      go false = omega arith

  -- from the last breakpoint on there are none
  from_end : (past : ℕ) → filter_by (ltb past) points ≡ [] → intervals_from x contig past ≡ 0
  unfolding intervals_from intervals_between filter_by
  from_end past none-later = rw none-later (go (ltb 0 past))
    where
      go : (t : Bool) → length (filter_by (in_clip contig x.clip) (intervals_between (cond t (past ∷ []) []))) ≡ 0
      go true = refl
      go false = refl

-- ---- from place to place

module _ {clipped : Bool} {place : ℕ} {rest : List ℕ} {along : Along} (ready : CountReady clipped (place ∷ rest) along) where
  abbrev x : Input
  x = ready.input

  abbrev contig : List ℕ
  contig = ready.contig

  -- the count is small
  pub count_few : along.intervals ≤ 67108863
  count_few = omega (arith, ready.so_far.counted, intervals_bound x ready.window.sound contig)

  turn : intervals_from x contig along.past
      ≡ one (ltb 0 along.past && (not clipped || ltb 0 along.depth)) + intervals_from x contig (place / 4294967296)
  turn =
      from_turn x contig along.past (position place) (goes_on ready.window) (step ready.window).next
      ∙ ap (λ (b : Bool). one (ltb 0 along.past && b) + intervals_from x contig (place / 4294967296))
      (inside_by_depth ready.window ready.so_far.deep)

  -- the next breakpoint, with the interval before it or without
  pub counted_on : (test : Bool) → test ≡ ltb 0 along.past && (not clipped || ltb 0 along.depth) → (intervals : ℕ)
      → intervals ≡ along.intervals + one test
      → CountedTo x contig (place / 4294967296)
      (record { past = place / 4294967296; depth = along.depth + place % 4294967296 - 2147483648; intervals = intervals })
  counted_on test is intervals so = record {
    there = refl;
    so_far = record {
      counted = omega (arith, so, ap (λ (b : Bool). one b) is, turn, ready.so_far.counted);
      deep = depth_next ready.window ready.so_far.deep;
    };
  }

-- ---- through a window

module _ {clipped : Bool} {places : List ℕ} {start : Along} (ready : CountReady clipped places start) where
  -- the places from k on are the window past the breakpoint that the count has come to
  pub record Through (along : Along) (k : ℕ) : Type 0 where
    pub so_far : SoFar ready.input ready.contig along
    pub window : ContigWindow ready.input clipped ready.contig (drop k places) along.past
    pub end : contig_window_end ready.input ready.contig along.past window.limit
        ≡ contig_window_end ready.input ready.contig start.past ready.window.limit

  pub through_start : Through start 0
  through_start = record { so_far = ready.so_far; window = ready.window; end = refl }

  module _ {along : Along} {k : ℕ} (t : Through along k) where
    pub through_end : length places ≤ k
        → CountedTo ready.input ready.contig (contig_window_end ready.input ready.contig start.past ready.window.limit) along
    through_end h = record { there = empty_end t.window (drop_of_length-le places h) ∙ t.end; so_far = t.so_far }

    module _ (more : k < length places) where
      unfoldable pub place_ready : CountReady clipped (get_or places k 0 ∷ drop (suc k) places) along
      place_ready = record {
        input = ready.input;
        contig = ready.contig;
        window = same_window t.window (sym (drop-cons places k 0 more)) refl;
        so_far = t.so_far;
      }

      pub through_next : {along' : Along} → CountedTo ready.input ready.contig (get_or places k 0 / 4294967296) along' → Through along' (k + 1)
      unfolding place_ready same_window rest_window
      through_next {along'} w = record {
        so_far = w.so_far;
        window = same_window (rest_window place_ready.window) (ap (λ (n : ℕ). drop n places) (add-one k)) w.there;
        end = ap (λ (p : ℕ). contig_window_end ready.input ready.contig p t.window.limit) w.there ∙ rest_end place_ready.window ∙ t.end;
      }

-- ---- all windows

module _ {rows sites : List ℕ} {clipped : Bool} {clip contig : List ℕ} (ready : LooksReady rows sites clipped clip contig) where
  pub so_far_start : SoFar ready.input contig (record { past = 0; depth = 0; intervals = 0 })
  so_far_start = record {
    counted = omega (arith, from_start ready.input contig ready.points.sound);
    deep = sym (depth_at_0 ready.points.sound contig);
  }

  pub so_far_end : {along : Along} → SoFar ready.input contig along → filter_by (ltb along.past) (all_breakpoints rows sites (spans_of clip contig)) ≡ []
      → along.intervals ≡ length (clipped_intervals ready.input.cohort.sites ready.input.clip contig)
  so_far_end {along} w none-past =
      omega (arith, w.counted, from_end ready.input contig along.past (ap (filter_by (ltb along.past)) (sym ready.points.all_places) ∙ none-past))

  -- the next window, past the breakpoint that the count has come to
  unfoldable pub count_ready : {along : Along} {entry exit : List ℕ} {r : Window} → SoFar ready.input contig along
      → NextBreakpoints (all_breakpoints rows sites (spans_of clip contig)) (spans_of clip contig) along.past entry exit r
      → CountReady clipped (take r.count exit) along
  count_ready w n = record { input = ready.input; contig = contig; window = contig_window ready.points n; so_far = w }

  -- ---- the product

  module _ {intervals : ℕ} (counted : intervals ≡ length (clipped_intervals ready.input.cohort.sites ready.input.clip contig)) where
    few_sites : length sites ≤ 4096
    unfolding sites_on
    few_sites =
        omega (
          arith,
          ready.all_sites,
          filter_few (λ (s : Site). same_bytes contig s.contig) ready.input.cohort.sites,
          ready.points.sound.cohort.few_sites,
        )

    pub product_fits : intervals * length sites < 18446744073709551616
    product_fits =
        let few_intervals : intervals ≤ 67108863 = omega (arith, counted, intervals_bound ready.input ready.points.sound contig) in
        omega (arith, mul-le-mul {n₂ = 67108863} {m₂ = 4096} few_intervals few_sites)

    pub looks_are : intervals * length sites ≡ contig_looks ready.input contig
    unfolding contig_looks
    looks_are = rw (counted, ready.all_sites)
