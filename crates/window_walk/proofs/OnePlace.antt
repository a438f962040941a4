-- One place of a window: the interval before the next breakpoint is passed over or walked.
use Prim.Native.Nat.{◌%◌, ◌+◌, ◌-◌, ◌/◌, ℕ}
use borrow.Author.Tests.{leb-true, ltb-false, ltb-true}
use lib.Dec.{eqb, leb, ltb}
use lib.ListN.{get_or, length}
use mathlib.Core.Bool.{Bool, ◌&&◌, ◌||◌, cond, false, not, true}
use mathlib.Core.List.Memᴰ
use mathlib.Core.List.{List, [], ◌++◌, ◌∷◌, flat_map}
use mathlib.Core.Path.{◌∙◌, ◌≡◌, ap, refl, subst, sym}
use native.Mathlib.Omega.{arith}
use Rattle.breakpoint_windows.proofs.ContigWindows.{depth_next, goes_on, inside_by_depth, step}
use Rattle.coalescing.proofs.HeldBlocks.{holds_fits}
use Rattle.coalescing.specs.Held.{PendingFits}
use Rattle.coalescing.specs.declared.Stepped.{Stepped}
use Rattle.contig_walk.proofs.Behind.{bytes_are, count_is}
use Rattle.contig_walk.proofs.LaidRecords.{contig_named}
use Rattle.contig_walk.specs.Laying.{TurnReady, Turns, Underway}
use Rattle.answers.specs.Answered.{row_of}
use Rattle.answers.specs.declared.Refusal.{Refusal}
use Rattle.std.specs.Prelude as std
use Rattle.covering_sites.proofs.Ended.{ended_later, ended_skipped}
use Rattle.covering_sites.specs.Ended.{Ended, Replaced, behind_ended}
use Rattle.definitions.specs.Bytes.{same_bytes}
use Rattle.definitions.specs.Checked.{Checked}
use Rattle.definitions.specs.Cohort.{Cohort}
use Rattle.definitions.specs.CombinedList.{Input}
use Rattle.definitions.specs.CoveringSites.{covering_site, covering_sites, covers}
use Rattle.definitions.specs.Intervals.{Interval, in_clip}
use Rattle.definitions.specs.Lists.{filter_by}
use Rattle.definitions.specs.Printed.{printed_record}
use Rattle.definitions.specs.Records.{Record}
use Rattle.laws.proofs.Every.{Every, every_member}
use Rattle.laws.proofs.Greatest.{greatest_found}
use Rattle.laws.proofs.IntervalsSound.{SoundInterval, every_breakpoint}
use Rattle.laws.proofs.Members.{◌∈◌, member_filter, member_filter_map, nil_of}
use Rattle.laws.proofs.Places.{position}
use Rattle.laws.proofs.SoundInput.{SoundSite}
use Rattle.laws.proofs.Tests.{all_three, both_of}
use Rattle.merged_records.specs.Loaded.{OnContig}
use Rattle.record_laws.proofs.Walking.{past_turn, points, records_past, with_interval}
use Rattle.record_laws.specs.Pending.{finish, merged_contig}
use Rattle.window_walk.specs.Windows.{Carried, Carrying, WalkedTo, WindowReady}
use Rattle.window_walk.specs.declared.Along.{Along}

-- ---- before the first breakpoint

-- no site covers position 0
none_covers : (c : Cohort) (contig : List ℕ) → Every SoundSite c.sites → covering_sites c contig 0 ≡ []
unfolding covering_sites covering_site covers
none_covers c contig sound = nil_of (covering_sites c contig 0) (λ z m.
    let (k, n, e) = member_filter_map (covering_site c.sites contig 0) _ m in
    let (there, test) = member_filter _ c.sites (greatest_found _ _ e) in
    let (_, covering) = both_of (eqb z.sample k) (same_bytes contig z.contig && leb z.start 0 && leb 0 z.end) test in
    let (same, from, to) = all_three (same_bytes contig z.contig) (leb z.start 0) (leb 0 z.end) covering in
    let one = (every_member there sound).from_one in
    omega (arith, leb-true z.start 0 from))

-- an interval from there on has no record
pub nothing_at_0 : (x : Input) (contig : List ℕ) → Every SoundSite x.cohort.sites → (last : ℕ) (later : Checked (List Record))
    → with_interval x contig (record { first = 0; last = last }) later ≡ later
unfolding with_interval
nothing_at_0 x contig sound last later = rw (none_covers x.cohort contig sound) (go (in_clip contig x.clip (record { first = 0; last = last })))
  where
    go : (b : Bool) → cond b later later ≡ later
    go true = refl
    go false = refl

-- ---- on the way

-- what is held back can be laid
pub pending_fits : {s rows : List ℕ} {samples : ℕ} {referenced : Bool} {reference contig : List ℕ} (on : OnContig s rows samples referenced reference contig)
    {d₀ bytes : List ℕ} {records : ℕ} {held out : List ℕ} {along : Along}
    → Carried on.loaded.input samples contig d₀ bytes records held out along
    → PendingFits contig held along.state.pending along.state.at
pending_fits {s} {rows} {samples} {reference = reference} {contig} on {held = held} {along = along} w =
    holds_fits samples contig held along.state.pending w.waiting along.state.at w.holds on.loaded.few
    (contig_named on).not_too_long (omega (arith, w.progress.measured.at_is))

-- ---- a place

module _ {s rows : List ℕ} {samples : ℕ} {clipped referenced : Bool} {reference contig chosen from bounds : List ℕ} {place : ℕ} {rest : List ℕ}
    {along : Along} {held fresh found owners alts out : List ℕ}
    (ready : WindowReady s rows samples clipped referenced reference contig chosen from bounds (place ∷ rest) along.past held fresh found owners alts)
    (way : Carrying ready.runs.on.loaded.input samples contig held out along) where
  abbrev x : Input
  x = ready.runs.on.loaded.input

  abbrev w : Carried x samples contig way.d₀ way.bytes way.records held out along
  w = way.carried

  -- what is laid
  abbrev bytes : List ℕ
  bytes = way.bytes ++ flat_map printed_record w.done

  abbrev records : ℕ
  records = way.records + length w.done

  -- the records of the intervals behind it
  abbrev later : Checked (List Record)
  later = records_past x contig (place / 4294967296)

  -- the interval before it, and whether it is walked
  abbrev here : Interval
  here = record { first = along.past; last = place / 4294967296 - 1 }

  abbrev walked : Bool
  walked = ltb 0 along.past && (not clipped || ltb 0 along.depth)

  -- what is left, from it on
  left : finish w.done w.waiting (with_interval x contig here later) ≡ merged_contig x contig
  left =
      ap (finish w.done w.waiting) (sym (past_turn x contig along.past (position place) (step ready.window).next)) ∙ w.whole

  -- one that is passed over has no record
  passed : walked ≡ false → with_interval x contig here later ≡ later
  unfolding with_interval
  passed test = go (ltb 0 along.past) refl test
    where
      go : (b : Bool) → ltb 0 along.past ≡ b → b && (not clipped || ltb 0 along.depth) ≡ false → with_interval x contig here later ≡ later
      go true t e = rw (inside_by_depth ready.window w.deep ∙ e)
      go false t e =
          let zero_past : along.past ≡ 0 = omega (arith, ltb-false 0 along.past t) in
          subst (λ (p : ℕ). with_interval x contig (record { first = p; last = place / 4294967296 - 1 }) later ≡ later) (sym zero_past)
          (nothing_at_0 x contig ready.runs.on.loaded.sound.cohort.sites (place / 4294967296 - 1) later)

  pub walked_past : walked ≡ false
      → WalkedTo x rows samples contig chosen bounds from way.d₀ way.bytes way.records held out (place / 4294967296)
      (std.Ok (record { past = place / 4294967296; depth = along.depth + place % 4294967296 - 2147483648; state = along.state }))
  unfolding WalkedTo
  walked_past test = record {
    there = refl;
    carried = record {
      done = w.done;
      waiting = w.waiting;
      whole = ap (finish w.done w.waiting) (sym (passed test)) ∙ left;
      deep = depth_next ready.window w.deep;
      holds = w.holds;
      progress = w.progress;
    };
    ended = ended_later (omega (arith, goes_on ready.window)) ready.ended;
  }

  -- ---- walking the interval

  unfoldable pub underway : Underway samples contig held along.state.pending out along.state.at along.state.count
  underway = record {
    begun = record {
      d₀ = way.d₀;
      bytes = bytes;
      records = records;
      progress = w.progress;
    };
    waiting = w.waiting;
    holds = w.holds;
  }

  module _ (test : walked ≡ true) {from' : List ℕ} (first last : ℕ) (f : first ≡ along.past) (l : last ≡ place / 4294967296 - 1)
      (r : Replaced from from' samples (λ i. behind_ended rows chosen first (get_or from i 0) (get_or bounds (i + 1) 0))) where
    pub sound : SoundInterval here
    sound =
        let next : position place ∈ filter_by (ltb along.past) (points x contig) = rw (step ready.window).next (Memᴰ.head refl) in
        let b = every_member (member_filter (ltb along.past) (points x contig) next).0
        (every_breakpoint x.cohort.sites x.clip contig ready.runs.on.loaded.sound.cohort.sites ready.runs.on.loaded.sound.clip) in
        record {
          from_one = omega (arith, ltb-true 0 along.past (both_of (ltb 0 along.past) _ test).0);
          ordered = omega (arith, goes_on ready.window);
          in_range_lem = omega (arith, b.in_range_lem, goes_on ready.window);
        }

    -- where the searches begin
    pub search_here : Ended rows chosen bounds from' samples first
    search_here = ended_skipped (rw f ready.ended) r

    unfoldable pub turn_ready : TurnReady s rows samples referenced reference contig chosen from' bounds first last
        along.state.pending held fresh found owners alts along.state.at
    turn_ready = record {
      runs = ready.runs;
      inside = rw (f, l) (inside_by_depth ready.window w.deep ∙ (both_of (ltb 0 along.past) _ test).1);
      sound = λ covered. rw (f, l) sound;
      ended = search_here;
      fits = pending_fits ready.runs.on w;
      room = ready.room;
    }

    -- what is left, with the interval as it was walked
    left_here : finish w.done w.waiting (with_interval x contig (record { first = first; last = last }) later) ≡ merged_contig x contig
    left_here = rw (f, l) left

    module _ (held' out' : List ℕ) where
      pub walked_refused : (refusal : Refusal)
          → Turns x samples contig held' out' first last w.waiting way.d₀ bytes records (std.Err refusal)
          → WalkedTo x rows samples contig chosen bounds from' way.d₀ way.bytes way.records held' out' (place / 4294967296)
          (std.Err refusal)
      unfolding WalkedTo Turns
      walked_refused refusal t = record {
        merged = sym left_here ∙ t.refuses w.done later;
        list = w.done;
        laid = t.unlaid;
      }

      pub walked_on : (stepped : Stepped)
          → Turns x samples contig held' out' first last w.waiting way.d₀ bytes records (std.Ok stepped)
          → WalkedTo x rows samples contig chosen bounds from' way.d₀ way.bytes way.records held' out' (place / 4294967296)
          (std.Ok (record { past = place / 4294967296; depth = along.depth + place % 4294967296 - 2147483648; state = stepped }))
      unfolding WalkedTo Turns
      walked_on stepped t = record {
        there = refl;
        carried = record {
          done = w.done ++ t.laid;
          waiting = t.waits;
          whole = sym (t.turned w.done later) ∙ left_here;
          deep = depth_next ready.window w.deep;
          holds = t.holds;
          progress = rw (bytes_are way.bytes way.records w.done t.laid, count_is way.bytes way.records w.done t.laid) t.progress;
        };
        ended = ended_later (omega (arith, f, goes_on ready.window)) search_here;
      }
