-- One window after the other: where the walk begins, and the end.
use Prim.Native.Nat.{◌+◌, ◌-◌, ◌<◌, ◌≤◌, min, ℕ}
use borrow.Author.Tests.{lt-ltb}
use lib.Dec.{ltb}
use lib.ListN.{get_or, length, take}
use lib.Seq.{length-take-le}
use mathlib.Core.Bool.{Bool}
use mathlib.Core.List.{List, [], ◌++◌, ◌∷◌, append-nil, flat_map}
use mathlib.Core.Option.{Option, none, some}
use mathlib.Core.Path.{◌∙◌, ◌≡◌, ap, refl, subst, sym}
use native.Mathlib.Nat.{add-zero}
use native.Mathlib.Omega.{arith}
use Rattle.breakpoint_windows.proofs.ContigWindows.{breakpoints_above, contig_window, depth_at_0}
use Rattle.breakpoint_windows.specs.Breakpoints.{NextBreakpoints, all_breakpoints, spans_of}
use Rattle.breakpoint_windows.specs.declared.Window.{Window}
use Rattle.coalescing.proofs.StepLaws.{laid_pending}
use Rattle.coalescing.specs.Held.{Holds, of_option, pending_bytes, pending_count}
use Rattle.contig_walk.proofs.Behind.{bytes_are, count_is}
use Rattle.contig_walk.specs.Laying.{TurnRoom}
use Rattle.contig_walk.specs.Walk.{Begun, RecordsWalked}
use Rattle.std.specs.Prelude as std
use Rattle.covering_sites.specs.Ended.{Ended}
use Rattle.definitions.specs.Checked.{accepted}
use Rattle.definitions.specs.CombinedList.{Input}
use Rattle.definitions.specs.Lists.{filter_by}
use Rattle.definitions.specs.Printed.{printed_record}
use Rattle.definitions.specs.Records.{Record}
use Rattle.kv_write.specs.Laid.{Laid}
use Rattle.laws.proofs.ClipDepth.{breakpoints_ascend}
use Rattle.laws.proofs.Every.{Pairwise, every_member}
use Rattle.laws.proofs.Members.{filter_all}
use Rattle.laws.proofs.Windows.{past_first}
use Rattle.list_header.specs.Measured.{limit}
use Rattle.record_laws.proofs.Coalescing.{at_end, at_end_pending}
use Rattle.record_laws.proofs.Walking.{past_end, past_nothing, past_start, past_turn, points, records_past}
use Rattle.record_laws.specs.Pending.{finish, merged_contig}
use Rattle.window_walk.proofs.OnePlace.{nothing_at_0}
use Rattle.window_walk.specs.Windows.{Carried, WindowReady, WindowsReady, numbers_in}
use Rattle.window_walk.specs.declared.Along.{Along}

-- ---- the beginning

module _ {s rows : List ℕ} {samples : ℕ} {clipped : Bool} {clip : List ℕ} {referenced : Bool} {reference contig chosen bounds : List ℕ}
    (ready : WindowsReady s rows samples clipped clip referenced reference contig chosen bounds) where
  some_sample : 0 < samples
  some_sample = omega (arith, ready.runs.on.loaded.names, ready.runs.on.loaded.sound.cohort.names.some_name)

  -- the numbers of the contig's sites are all there
  numbers_within : get_or bounds samples 0 ≤ length chosen
  numbers_within =
      let last : samples - 1 + 1 ≡ samples = omega (arith, some_sample) in
      rw last at (ready.runs.in_runs.bounded.within (samples - 1) (omega (arith, some_sample)))

  pub numbers_exactly : get_or bounds samples 0 ≡ length (numbers_in samples chosen bounds)
  numbers_exactly = sym (length-take-le _ chosen numbers_within)

  abbrev x : Input
  x = ready.runs.on.loaded.input

  -- all breakpoints are past position 0
  past_0 : filter_by (ltb 0) (points x contig) ≡ points x contig
  past_0 = filter_all (ltb 0) (points x contig) (λ b m. lt-ltb 0 b (every_member m (breakpoints_above ready.points.sound contig)))

  first_next : (b : ℕ) (l : List ℕ) → points x contig ≡ b ∷ l → filter_by (ltb 0) (points x contig) ≡ b ∷ filter_by (ltb b) (points x contig)
  first_next b l e =
      let ordered : Pairwise ◌<◌ (b ∷ l) = subst (Pairwise ◌<◌) e (breakpoints_ascend x.cohort.sites x.clip contig) in
      past_0 ∙ e ∙ ap (λ (k : List ℕ). b ∷ k) (sym (ap (filter_by (ltb b)) e ∙ past_first b l ordered))

  -- from there on the records are all
  from_0 : finish [] none (records_past x contig 0) ≡ merged_contig x contig
  from_0 = go (points x contig) refl
    where
      go : (l : List ℕ) → points x contig ≡ l → finish [] none (records_past x contig 0) ≡ merged_contig x contig
      go [] e = ap (finish [] none) (past_end x contig 0 (past_0 ∙ e)) ∙ past_nothing x contig e
      go (b ∷ l) e =
          ap (finish [] none) (past_turn x contig 0 b (first_next b l e)
          ∙ nothing_at_0 x contig ready.points.sound.cohort.sites (b - 1) (records_past x contig b))
          ∙ past_start x contig b l e

  pub carried_start : {held out : List ℕ} {at count : ℕ} (begun : Begun out at count)
      → Carried x samples contig begun.d₀ begun.bytes begun.records held out
      (record { past = 0; depth = 0; state = record { pending = std.None; at = at; count = count } })
  unfolding Holds flat_map
  carried_start begun = record {
    done = [];
    waiting = none;
    whole = from_0;
    deep = sym (depth_at_0 ready.points.sound contig);
    holds = refl;
    progress = rw (append-nil begun.bytes, add-zero begun.records) begun.progress;
  }

  -- ---- a window

  abbrev read : List ℕ
  read = all_breakpoints rows (numbers_in samples chosen bounds) (spans_of clip contig)

  unfoldable pub window_ready : {past : ℕ} {entry exit : List ℕ} {r : Window} → NextBreakpoints read (spans_of clip contig) past entry exit r
      → {from held fresh found owners alts : List ℕ} → Ended rows chosen bounds from samples past → TurnRoom samples held fresh found owners alts
      → WindowReady s rows samples clipped referenced reference contig chosen from bounds (take r.count exit) past held fresh found owners alts
  window_ready n ended room = record { runs = ready.runs; window = contig_window ready.points n; ended = ended; room = room }

  -- ---- the end

  module _ {d₀ bytes : List ℕ} {records : ℕ} {held out : List ℕ} {along : Along}
      (w : Carried x samples contig d₀ bytes records held out along) where
    pub carried_end : filter_by (ltb along.past) read ≡ [] → (out' : List ℕ) (next : ℕ)
        → Laid out along.state.at (pending_bytes contig held along.state.pending) out' next
        → RecordsWalked (merged_contig x contig) d₀ bytes records out' (std.Ok (record { at = min limit next; count = pending_count along.state.pending along.state.count }))
    unfolding RecordsWalked finish of_option
    carried_end none-past out' next l = record {
      list = w.done ++ of_option w.waiting;
      merged = sym w.whole ∙ ended w.done w.waiting;
      progress = rw (bytes_are bytes records w.done (of_option w.waiting), count_is bytes records w.done (of_option w.waiting))
          (laid_pending samples contig held d₀ (bytes ++ flat_map printed_record w.done) (records + length w.done)
          along.state.pending w.waiting w.holds w.progress l);
    }
      where
        nothing_left : records_past x contig along.past ≡ accepted []
        nothing_left = past_end x contig along.past (ap (filter_by (ltb along.past)) (sym ready.points.all_places) ∙ none-past)

        ended : (done : List Record) (waiting : Option Record) → finish done waiting (records_past x contig along.past) ≡ accepted (done ++ of_option waiting)
        ended done none = rw (append-nil done) (at_end done nothing_left)
        ended done (some p) = at_end_pending done p nothing_left
