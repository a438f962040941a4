-- For callers that go through a contig's breakpoints, a window at a time: each window leaves fewer of them, and from place to place the next
-- breakpoint, whether the interval before it lies in the clip, and the depth there.
use Prim.Native.Nat.{◌*◌, ◌%◌, ◌+◌, ◌-◌, ◌/◌, ◌<◌, ◌≤◌, ℕ}
use borrow.Author.Tests.{lt-ltb, ltb-false, ltb-true}
use lib.Dec.{ltb}
use lib.ListN.{length, length-append, length-map, take}
use lib.Seq.{length-take-le}
use mathlib.Core.Bool.{Bool, ◌||◌, cond, false, not, true}
use mathlib.Core.List.{List, [], ◌∷◌, map}
use mathlib.Core.Path.{◌∙◌, ◌≡◌, ap, refl, subst, sym}
use native.Mathlib.Omega.{arith}
use Rattle.definitions.specs.ClipAndReference.{Span}
use Rattle.definitions.specs.CombinedList.{Input}
use Rattle.definitions.specs.Intervals.{breakpoints, in_clip, spans_on}
use Rattle.definitions.specs.Lists.{filter_by}
use Rattle.laws.proofs.ClipDepth.{breakpoints_ascend, breakpoints_bounded, depth, depth_before, depth_few, in_clip_lem, spans_whole}
use Rattle.laws.proofs.Every.{Every, Pairwise, every_map}
use Rattle.laws.proofs.Fillings.{PlaceStep, end_here, end_later, place_step, place_of}
use Rattle.laws.proofs.IntervalsSound.{every_breakpoint}
use Rattle.laws.proofs.Places.{position}
use Rattle.laws.proofs.SoundInput.{SoundInput}
use Rattle.laws.proofs.Windows.{next_later, window, window_end, windows}
use Rattle.breakpoint_windows.proofs.InRange.{spans_few}
use Rattle.breakpoint_windows.specs.Breakpoints.{NextBreakpoints, all_breakpoints, spans_of}
use Rattle.breakpoint_windows.specs.Contig.{ContigBreakpoints, ContigWindow, contig_window_end}
use Rattle.breakpoint_windows.specs.declared.Window.{Window}

-- ---- a window leaves fewer breakpoints past its end

module _ {all : List ℕ} {spans : List Span} {past : ℕ} {entry exit : List ℕ} {r : Window} (n : NextBreakpoints all spans past entry exit r) where
  -- the places stored are all there
  pub stored_within : r.count ≤ length exit
  stored_within = omega (arith, n.room, n.long)

  pub stored_exactly : r.count ≡ length (take r.count exit)
  stored_exactly = sym (length-take-le r.count exit stored_within)

  module _ (ordered : Pairwise ◌<◌ all) where
    counted : r.count ≡ length (window past n.limit all)
    counted = stored_exactly ∙ ap length n.stored ∙ length-map (window past n.limit all) (place_of spans)

    end : ℕ
    end = window_end past (window past n.limit all)

    parts : length (filter_by (ltb past) all) ≡ length (window past n.limit all) + length (filter_by (ltb end) all)
    unfolding end
    parts = ap length (windows ordered past n.limit) ∙ length-append (window past n.limit all) _

    fewer : {past' : ℕ} → past' ≡ window_end past (window past n.limit all) → r.more ≡ true
        → length (filter_by (ltb past') all) < length (filter_by (ltb past) all)
    unfolding end
    fewer {past'} e h =
        let later = length (filter_by (ltb past) all) in
        let some_left = ltb-true 0 (length (filter_by (ltb end) all)) (sym n.more ∙ h) in
        let some_count : 0 < r.count = ltb-true 0 r.count (n.some_there ∙ lt-ltb 0 later (omega (arith, parts))) in
        rw e (omega (arith, parts, counted))

    -- without more of them none is left
    nothing_left : {past' : ℕ} → past' ≡ window_end past (window past n.limit all) → r.more ≡ false → filter_by (ltb past') all ≡ []
    unfolding end
    nothing_left {past'} e h =
        ap (λ (p : ℕ). filter_by (ltb p) all) e ∙ go (filter_by (ltb end) all) (sym n.more ∙ h)
      where
        go : (l : List ℕ) → ltb 0 (length l) ≡ false → l ≡ []
        go [] t = refl
        go (b ∷ l) t = absurd (omega (arith, ltb-false 0 (length (b ∷ l)) t))

-- ---- before the first breakpoint

module _ {x : Input} (sound : SoundInput x) (contig : List ℕ) where
  pub breakpoints_above : Every (λ b. 0 < b) (breakpoints x.cohort.sites x.clip contig)
  breakpoints_above =
      every_map (λ a b. omega (arith, b.from_one)) (every_breakpoint x.cohort.sites x.clip contig sound.cohort.sites sound.clip)

  -- no span covers position 0
  pub depth_at_0 : depth (spans_on contig x.clip) 0 ≡ 0
  depth_at_0 =
      depth_before (breakpoints_ascend x.cohort.sites x.clip contig) (breakpoints_bounded x.cohort.sites x.clip contig) 0
      breakpoints_above

-- ---- a window of a contig's breakpoints

module _ {x : Input} {rows sites : List ℕ} {clipped : Bool} {clip contig : List ℕ} (b : ContigBreakpoints x rows sites clipped clip contig) where
  abbrev read : List ℕ
  read = all_breakpoints rows sites (spans_of clip contig)

  -- as they are read, the breakpoints ascend
  in_order_lem : Pairwise ◌<◌ read
  in_order_lem = subst (Pairwise ◌<◌) (sym b.all_places) (breakpoints_ascend x.cohort.sites x.clip contig)

  module _ {past : ℕ} {entry exit : List ℕ} {r : Window} (n : NextBreakpoints read (spans_of clip contig) past entry exit r) where
    unfoldable pub contig_window : ContigWindow x clipped contig (take r.count exit) past
    contig_window = record {
      sound = b.sound;
      clip_there = b.clip_there;
      few_spans = subst (λ (l : List Span). 2 * length l < 2147483648) b.spans_are (spans_few clip contig b.short);
      limit = n.limit;
      stored = n.stored ∙ ap (λ (l : List Span). map (place_of l) (window past n.limit read)) b.spans_are
          ∙ ap (λ (l : List ℕ). map (place_of (spans_on contig x.clip)) (window past n.limit l)) b.all_places;
    }

    -- past its end fewer are left, if there are more, and otherwise none
    module _ {past' : ℕ} (e : past' ≡ contig_window_end x contig past n.limit) where
      ends : past' ≡ window_end past (window past n.limit read)
      ends = e ∙ ap (λ (l : List ℕ). window_end past (window past n.limit l)) (sym b.all_places)

      pub fewer_left : r.more ≡ true → length (filter_by (ltb past') read) < length (filter_by (ltb past) read)
      fewer_left h = fewer n in_order_lem ends h

      pub none_left : r.more ≡ false → filter_by (ltb past') read ≡ []
      none_left h = nothing_left n in_order_lem ends h

-- ---- one place of a window

module _ {x : Input} {clipped : Bool} {contig : List ℕ} {place : ℕ} {rest : List ℕ} {past : ℕ}
    (w : ContigWindow x clipped contig (place ∷ rest) past) where
  abbrev spans : List Span
  spans = spans_on contig x.clip

  abbrev ascend : Pairwise ◌<◌ (breakpoints x.cohort.sites x.clip contig)
  ascend = breakpoints_ascend x.cohort.sites x.clip contig

  -- the next breakpoint, what stands behind it, and the change of depth
  pub step : PlaceStep (breakpoints x.cohort.sites x.clip contig) spans past w.limit place rest
  step =
      place_step ascend (breakpoints_bounded x.cohort.sites x.clip contig) (spans_whole contig x.clip w.sound.clip)
      w.few_spans past w.limit place rest (sym w.stored)

  pub goes_on : past < place / 4294967296
  goes_on = next_later ascend past (position place) _ step.next

  -- behind it stands the window past it, which ends where the whole one does
  unfoldable pub rest_window : ContigWindow x clipped contig rest (place / 4294967296)
  rest_window = record {
    sound = w.sound;
    clip_there = w.clip_there;
    few_spans = w.few_spans;
    limit = w.limit;
    stored = step.rest;
  }

  pub rest_end : contig_window_end x contig (place / 4294967296) w.limit ≡ contig_window_end x contig past w.limit
  rest_end = end_later ascend spans w.few_spans past w.limit place rest (sym w.stored)

  module _ {d : ℕ} (deep : d ≡ depth spans past) where
    -- the interval before it lies in the clip by the depth
    pub inside_by_depth : in_clip contig x.clip (record { first = past; last = place / 4294967296 - 1 }) ≡ not clipped || ltb 0 d
    inside_by_depth =
        in_clip_lem ascend contig x.clip (breakpoints_bounded x.cohort.sites x.clip contig) past (position place) _ step.next
        ∙ ap (λ (b : Bool). not b || ltb 0 (depth spans past)) (sym w.clip_there) ∙ ap (λ (n : ℕ). not clipped || ltb 0 n) (sym deep)

    -- the depth at the breakpoint
    pub depth_sum_lem : d + place % 4294967296 < 18446744073709551616
    depth_sum_lem = omega (arith, deep, depth_few spans past, w.few_spans)

    pub depth_from : 2147483648 ≤ d + place % 4294967296
    depth_from = omega (arith, deep, step.deeper)

    pub depth_next : d + place % 4294967296 - 2147483648 ≡ depth spans (place / 4294967296)
    depth_next = omega (arith, deep, step.deeper)

-- ---- the same window

module _ {x : Input} {clipped : Bool} {contig places : List ℕ} {past : ℕ} (w : ContigWindow x clipped contig places past) where
  -- under other names of its places and of the position
  unfoldable pub same_window : {places' : List ℕ} {past' : ℕ} → places' ≡ places → past' ≡ past → ContigWindow x clipped contig places' past'
  same_window p q = record {
    sound = w.sound;
    clip_there = w.clip_there;
    few_spans = w.few_spans;
    limit = w.limit;
    stored = p ∙ w.stored
        ∙ ap (λ (p : ℕ). map (place_of (spans_on contig x.clip)) (window p w.limit (breakpoints x.cohort.sites x.clip contig))) (sym q);
  }

  -- without places it ends where it begins
  pub empty_end : places ≡ [] → past ≡ contig_window_end x contig past w.limit
  empty_end e =
      end_here (breakpoints_ascend x.cohort.sites x.clip contig) (spans_on contig x.clip) w.few_spans past w.limit (sym w.stored ∙ e)
