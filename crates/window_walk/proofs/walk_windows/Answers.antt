-- Window by window; then what is held back is laid.
use Prim.Native.Nat.{◌+◌, ◌≤◌, ℕ}
use borrow.Author.Rules.{rules}
use Rattle.std.proofs.lemmas.Result.{err_from_is_err_and}
use borrow.Author.Tests.{not-false, not-true}
use lib.Dec.{ltb}
use lib.ListN.{length}
use mathlib.Core.Bool.{Bool, cond, false}
use mathlib.Core.List.{List, []}
use mathlib.Core.Path.{◌∙◌, ◌≡◌, refl}
use native.Mathlib.Omega.{arith}
use Rattle.breakpoint_windows.proofs.ContigWindows.{contig_window, fewer_left, none_left, stored_exactly, stored_within}
use Rattle.breakpoint_windows.specs.Breakpoints.{all_breakpoints, spans_of}
use Rattle.contig_walk.specs.Laying.{TurnRoom}
use Rattle.contig_walk.specs.Walk.{Begun, RecordsWalked, WalkRoom}
use Rattle.covering_sites.proofs.Ended.{ended_start}
use Rattle.covering_sites.specs.Ended.{Ended}
use Rattle.definitions.specs.Lists.{filter_by}
use Rattle.window_walk.proofs.AllWindows.{carried_end, carried_start, numbers_exactly, window_ready}
use Rattle.window_walk.proofs.OnePlace.{pending_fits}
use Rattle.window_walk.specs.Windows.{Carried, Carrying, WalkedTo, WindowsReady, numbers_in}
use Rattle.window_walk.specs.declared.Along.{Along}
use Rattle.window_walk.proofs.walk_windows.Invariants.{Inv}
use Rattle.window_walk.proofs.walk_windows.Goals as goal

module _ {s rows : List ℕ} {samples : ℕ} {clipped : Bool} {clip : List ℕ} {referenced : Bool}
    {reference contig chosen bounds scratch₀ held₀ fresh₀ alts₀ out₀ : List ℕ}
    {at count : ℕ} {scratch held fresh alts out found owners from : List ℕ} {along : Along}
    (inv : Inv s rows samples clipped clip referenced reference contig chosen bounds scratch₀ held₀ fresh₀ alts₀ out₀ at count
    scratch held fresh alts out found owners from along) where
  room_here : samples ≤ 64 → WalkRoom held₀ fresh₀ alts₀ → TurnRoom samples held fresh found owners alts
  room_here few r = record {
    for_held = omega (arith, inv.held-long, r.for_held);
    for_fresh = omega (arith, inv.fresh-long, r.for_fresh);
    for_record = record {
      for_sites = omega (arith, inv.found-long);
      for_owners = omega (arith, inv.owners-long);
      for_alts = omega (arith, inv.alts-long, r.for_alts);
    };
  }

  abbrev carrying : (ready : WindowsReady s rows samples clipped clip referenced reference contig chosen bounds) → Begun out₀ at count
      → Carrying ready.runs.on.loaded.input samples contig held out along
  carrying ready begun = record { d₀ = begun.d₀; bytes = begun.bytes; records = begun.records; carried = inv.way ready begun }

pub start_search-requires : goal.start_search-requires
start_search-requires c = record {
  samples_in_bounds = c.requires.0.runs.in_runs.bounded.long;
  samples_in_bounds_2 = omega (arith, c.requires.0.runs.on.loaded.few);
}

pub bounds-bounds-samples : goal.bounds-bounds-samples
bounds-bounds-samples c = c.requires.0.runs.in_runs.bounded.long

pub loop-along-init : goal.loop-along-init
loop-along-init c = let ready = c.requires.0 in
    record {
      scratch-long = refl;
      held-long = refl;
      fresh-long = refl;
      alts-long = refl;
      out-long = refl;
      found-long = refl;
      owners-long = refl;
      from-long = c.start_search.auto.from;
      ended = ended_start ready.runs.in_runs.bounded (omega (arith, ready.runs.on.loaded.few)) c.start_search.ensures;
      way = λ ready begun. carried_start ready begun;
    }

pub slice_bounds-next_breakpoints-end : goal.slice_bounds-next_breakpoints-end
slice_bounds-next_breakpoints-end c = numbers_exactly c.requires.0

pub next_breakpoints-window-requires : goal.next_breakpoints-window-requires
next_breakpoints-window-requires c = record {
  in_bounds = omega (arith, c.loop-along.invariant.scratch-long, c.requires.3);
  every = c.requires.0.points.rows_in_range;
  clip_len_bound = c.requires.0.points.short;
}

pub slice_bounds-walk_window-end-in-loop-along : goal.slice_bounds-walk_window-end-in-loop-along
slice_bounds-walk_window-end-in-loop-along c = stored_within c.next_breakpoints-window.ensures

pub slice_bounds-walk_window-end-in-loop-along-2 : goal.slice_bounds-walk_window-end-in-loop-along-2
slice_bounds-walk_window-end-in-loop-along-2 c = stored_exactly c.next_breakpoints-window.ensures

pub walk_window-requires : goal.walk_window-requires
unfolding window_ready
walk_window-requires c = let room = room_here c.loop-along.invariant c.requires.0.runs.on.loaded.few c.requires.2 in (
  window_ready c.requires.0 c.next_breakpoints-window.ensures c.loop-along.invariant.ended room,
  carrying c.loop-along.invariant c.requires.0 c.requires.1,
)

pub returns-in_err-along : goal.returns-in_err-along
unfolding window_ready WalkedTo RecordsWalked
returns-in_err-along c = λ ready begun.
    let room = room_here c.loop-along.invariant ready.runs.on.loaded.few c.requires.2 in
    let p = err_from_is_err_and c.from_residual.result c.from_residual.ensures.1 in
    rw (p.1, p.2) (c.in_err-along.ensures
    (window_ready ready c.next_breakpoints-window.ensures c.loop-along.invariant.ended room)
    (carrying c.loop-along.invariant ready begun))

pub loop-along-smaller : goal.loop-along-smaller
unfolding window_ready contig_window WalkedTo
loop-along-smaller c =
    let room = room_here c.loop-along.invariant c.requires.0.runs.on.loaded.few c.requires.2 in
    let walked = c.in_ok-along.ensures
    (window_ready c.requires.0 c.next_breakpoints-window.ensures c.loop-along.invariant.ended room)
    (carrying c.loop-along.invariant c.requires.0 c.requires.1) in
    fewer_left c.requires.0.points c.next_breakpoints-window.ensures walked.there (not-false _ c.if-not-window.false)

pub loop-along-preserved : goal.loop-along-preserved
unfolding window_ready WalkedTo
loop-along-preserved c =
    let room = room_here c.loop-along.invariant c.requires.0.runs.on.loaded.few c.requires.2 in
    let walked = c.in_ok-along.ensures
    (window_ready c.requires.0 c.next_breakpoints-window.ensures c.loop-along.invariant.ended room)
    (carrying c.loop-along.invariant c.requires.0 c.requires.1) in
    record {
      scratch-long = c.next_breakpoints-window.ensures.long ∙ c.loop-along.invariant.scratch-long;
      held-long = c.walk_window.auto.held ∙ c.loop-along.invariant.held-long;
      fresh-long = c.walk_window.auto.fresh ∙ c.loop-along.invariant.fresh-long;
      alts-long = c.walk_window.auto.alts ∙ c.loop-along.invariant.alts-long;
      out-long = c.walk_window.auto.out ∙ c.loop-along.invariant.out-long;
      found-long = c.walk_window.auto.found ∙ c.loop-along.invariant.found-long;
      owners-long = c.walk_window.auto.owners ∙ c.loop-along.invariant.owners-long;
      from-long = c.walk_window.auto.from ∙ c.loop-along.invariant.from-long;
      ended = walked.ended;
      way = λ ready begun. (c.in_ok-along.ensures
          (window_ready ready c.next_breakpoints-window.ensures c.loop-along.invariant.ended (room_here c.loop-along.invariant ready.runs.on.loaded.few c.requires.2))
          (carrying c.loop-along.invariant ready begun)).carried;
    }

pub put_pending-next-requires : goal.put_pending-next-requires
unfolding window_ready WalkedTo
put_pending-next-requires c =
    let room = room_here c.loop-along.invariant c.requires.0.runs.on.loaded.few c.requires.2 in
    let walked = c.in_ok-along.ensures
    (window_ready c.requires.0 c.next_breakpoints-window.ensures c.loop-along.invariant.ended room)
    (carrying c.loop-along.invariant c.requires.0 c.requires.1) in
    pending_fits c.requires.0.runs.on walked.carried

pub returns : goal.returns
unfolding window_ready contig_window WalkedTo
returns c = λ ready begun.
    let room = room_here c.loop-along.invariant ready.runs.on.loaded.few c.requires.2 in
    let walked = c.in_ok-along.ensures
    (window_ready ready c.next_breakpoints-window.ensures c.loop-along.invariant.ended room)
    (carrying c.loop-along.invariant ready begun) in
    let none-past = none_left ready.points c.next_breakpoints-window.ensures walked.there (not-true _ c.if-not-window.true) in
    rw (c.cap.ensures, c.count_pending.ensures) (carried_end ready walked.carried none-past _ _ c.put_pending-next.ensures)
