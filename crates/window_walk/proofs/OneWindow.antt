-- The places of a window one after the other: the breakpoints that are left of it, and where it ends.
use Prim.Native.Nat.{◌+◌, ◌/◌, ◌<◌, ◌≤◌, suc, ℕ}
use lib.ListN.{drop, drop_of_length-le, get_or, length}
use lib.Seq.{drop-cons}
use mathlib.Core.Bool.{Bool}
use mathlib.Core.List.{List, ◌∷◌}
use mathlib.Core.Path.{◌∙◌, ◌≡◌, ap, refl, sym}
use native.Mathlib.Numerals.{add-one}
use native.Mathlib.Omega.{arith}
use Rattle.breakpoint_windows.proofs.ContigWindows.{empty_end, rest_end, rest_window, same_window}
use Rattle.breakpoint_windows.specs.Contig.{ContigWindow, contig_window_end}
use Rattle.contig_walk.specs.Laying.{TurnRoom}
use Rattle.covering_sites.specs.Ended.{Ended}
use Rattle.definitions.specs.CombinedList.{Input}
use Rattle.window_walk.specs.Windows.{Carried, CarriedTo, Carrying, WindowReady}
use Rattle.window_walk.specs.declared.Along.{Along}

-- ---- room

-- lists that are as long as others have the same room
pub same_room : {samples : ℕ} {held₀ fresh₀ found₀ owners₀ alts₀ held fresh found owners alts : List ℕ} → TurnRoom samples held₀ fresh₀ found₀ owners₀ alts₀
    → length held ≡ length held₀ → length fresh ≡ length fresh₀ → length found ≡ length found₀ → length owners ≡ length owners₀ → length alts ≡ length alts₀
    → TurnRoom samples held fresh found owners alts
same_room r a b c d e = record {
  for_held = omega (arith, r.for_held);
  for_fresh = omega (arith, r.for_fresh);
  for_record = record {
    for_sites = omega (arith, r.for_record.for_sites);
    for_owners = omega (arith, r.for_record.for_owners);
    for_alts = omega (arith, r.for_record.for_alts);
  };
}

-- ---- on the way

module _ {s rows : List ℕ} {samples : ℕ} {clipped referenced : Bool} {reference contig chosen from₀ bounds places : List ℕ} {start : Along}
    {held₀ fresh₀ found₀ owners₀ alts₀ out₀ : List ℕ}
    (ready : WindowReady s rows samples clipped referenced reference contig chosen from₀ bounds places start.past held₀ fresh₀ found₀ owners₀ alts₀)
    (way : Carrying ready.runs.on.loaded.input samples contig held₀ out₀ start) where
  abbrev x : Input
  x = ready.runs.on.loaded.input

  abbrev window_ends : ℕ
  window_ends = contig_window_end x contig start.past ready.window.limit

  -- the places from k on are the window past the breakpoint that the walk has come to
  pub record Through (from held out : List ℕ) (along : Along) (k : ℕ) : Type 0 where
    pub carried : Carried x samples contig way.d₀ way.bytes way.records held out along
    pub ended : Ended rows chosen bounds from samples along.past
    pub window : ContigWindow x clipped contig (drop k places) along.past
    pub end : contig_window_end x contig along.past window.limit ≡ window_ends

  pub through_start : Through from₀ held₀ out₀ start 0
  through_start = record { carried = way.carried; ended = ready.ended; window = ready.window; end = refl }

  module _ {from held out : List ℕ} {along : Along} {k : ℕ} (t : Through from held out along k) where
    pub through_end : length places ≤ k
        → CarriedTo x rows samples contig chosen bounds from way.d₀ way.bytes way.records held out window_ends along
    through_end h = record { there = empty_end t.window (drop_of_length-le places h) ∙ t.end; carried = t.carried; ended = t.ended }

    unfoldable pub carrying : Carrying x samples contig held out along
    carrying = record { d₀ = way.d₀; bytes = way.bytes; records = way.records; carried = t.carried }

    module _ (more : k < length places) where
      unfoldable pub place_window : ContigWindow x clipped contig (get_or places k 0 ∷ drop (suc k) places) along.past
      place_window = same_window t.window (sym (drop-cons places k 0 more)) refl

      unfoldable pub place_ready : {fresh found owners alts : List ℕ} → TurnRoom samples held fresh found owners alts
          → WindowReady s rows samples clipped referenced reference contig chosen from bounds (get_or places k 0 ∷ drop (suc k) places) along.past
          held fresh found owners alts
      place_ready room = record { runs = ready.runs; window = place_window; ended = t.ended; room = room }

      pub through_next : {from' held' out' : List ℕ} {along' : Along}
          → CarriedTo x rows samples contig chosen bounds from' way.d₀ way.bytes way.records held' out'
          (get_or places k 0 / 4294967296) along'
          → Through from' held' out' along' (k + 1)
      unfolding place_window same_window rest_window
      through_next w = record {
        carried = w.carried;
        ended = w.ended;
        window = same_window (rest_window place_window) (ap (λ (n : ℕ). drop n places) (add-one k)) w.there;
        end = ap (λ (p : ℕ). contig_window_end x contig p t.window.limit) w.there ∙ rest_end place_window ∙ t.end;
      }
