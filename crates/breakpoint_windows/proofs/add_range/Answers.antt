-- A range that follows the run makes it longer, or is within it; another is the run from then on.
use Prim.Native.Nat.{◌-◌, ◌<◌, ◌≤◌, ℕ}
use borrow.Author.Rules.{rules}
use borrow.Author.Tests.{leb-true, ltb-true, not-false}
use lib.Dec.{leb, ltb}
use lib.ListN.{take}
use mathlib.Core.Bool.{◌&&◌, true}
use mathlib.Core.List.Memᴰ
use mathlib.Core.List.{List, [], map}
use mathlib.Core.Logic.{◌⊎◌, inl, inr}
use mathlib.Core.Path.{◌∙◌, ◌≡◌, sym}
use native.Mathlib.Decide.{dec_lt}
use native.Mathlib.Omega.{arith}
use Rattle.definitions.specs.Lists.{numbers_from}
use Rattle.laws.proofs.Fillings.{plain_place}
use Rattle.laws.proofs.Members.{◌∈◌}
use Rattle.laws.proofs.Places.{position}
use Rattle.laws.proofs.Tests.{both_of}
use Rattle.laws.proofs.Windows.{within}
use Rattle.breakpoint_windows.proofs.AddedPlaces.{added_none, added_range, between_numbers, in_window, is_taken, numbers_between, still_taken}
use Rattle.breakpoint_windows.proofs.Fills.{fills_lower}
use Rattle.breakpoint_windows.specs.Fillings.{Added, AddedRun, Ready, RunTaken}
use Rattle.breakpoint_windows.specs.declared.Adding.{Adding}
use Rattle.breakpoint_windows.specs.declared.Taken.{Taken}
use Rattle.breakpoint_windows.proofs.add_range.Goals as goal

module _ {past : ℕ} {adding : Adding} {entry : List ℕ} (ready : Ready past adding.taken entry) (first behind : ℕ) where
  -- a run of its own
  alone : {exit : List ℕ} {r : Taken} → Added past adding.taken (map plain_place (numbers_from first (behind - first))) entry exit r
      → AddedRun past adding (map plain_place (numbers_from first (behind - first))) entry exit
      (record { taken = r; run = record { first = first; behind = behind } })
  alone a = record {
    added = a;
    run = record { at_hand = λ p h k inside. is_taken ready.light (numbers_from first (behind - first)) a inside (between_numbers h k) };
  }

  module _ (run : RunTaken past adding entry) (follows : leb adding.run.first first && leb first adding.run.behind ≡ true) where
    starts : (adding.run.first ≤ first) × (first ≤ adding.run.behind)
    starts =
        let (a, b) = both_of (leb adding.run.first first) (leb first adding.run.behind) follows in
        (leb-true adding.run.first first a, leb-true first adding.run.behind b)

    -- it is within the run
    within-run : behind ≤ adding.run.behind → AddedRun past adding (map plain_place (numbers_from first (behind - first))) entry entry adding
    within-run h = record {
      added = added_range ready.light first behind [] (λ p m. absurd (Memᴰ.not-nil m))
          (λ q a b c d. let s = starts in inr (run.at_hand q (omega arith) (omega arith) (in_window past adding.taken.limit q c d)))
          (added_none ready);
      run = run;
    }

    -- it goes on where the run ended
    longer : {exit : List ℕ} {r : Taken}
        → Added past adding.taken (map plain_place (numbers_from adding.run.behind (behind - adding.run.behind))) entry exit r
        → AddedRun past adding (map plain_place (numbers_from first (behind - first))) entry exit
        (record { taken = r; run = record { first = adding.run.first; behind = behind } })
    longer {exit} {r} a = record {
      added = added_range ready.light first behind rest
          (λ p m. let (h, k) = numbers_between m in let s = starts in (omega arith, k))
          (λ q h k later below. covered q (omega (arith, starts.0)) k later below) a;
      run = record { at_hand = λ p h k inside. at_hand p h k inside (covers p h k inside) };
    }
      where
        rest : List ℕ
        rest = numbers_from adding.run.behind (behind - adding.run.behind)

        covered : (q : ℕ) → adding.run.first ≤ q → q < behind → past < q → q < r.limit
            → (q ∈ numbers_from adding.run.behind (behind - adding.run.behind)) ⊎ (q ∈ map position (take adding.taken.count entry))
        covered q h k later below = go (dec_lt q adding.run.behind)
          where
            go : Dec (q < adding.run.behind)
                → (q ∈ numbers_from adding.run.behind (behind - adding.run.behind)) ⊎ (q ∈ map position (take adding.taken.count entry))
            go (yes before) = inr (run.at_hand q h before (in_window past adding.taken.limit q later (omega (arith, fills_lower a.fills))))
            go (no from) = inl (between_numbers (omega arith) k)

        covers : (q : ℕ) → adding.run.first ≤ q → q < behind → within past r.limit q ≡ true
            → (q ∈ numbers_from adding.run.behind (behind - adding.run.behind)) ⊎ (q ∈ map position (take adding.taken.count entry))
        covers q h k inside =
            let (later, below) = both_of (ltb past q) (ltb q r.limit) inside in
            covered q h k (ltb-true past q later) (ltb-true q r.limit below)

        at_hand : (q : ℕ) → adding.run.first ≤ q → q < behind → within past r.limit q ≡ true
            → (q ∈ numbers_from adding.run.behind (behind - adding.run.behind)) ⊎ (q ∈ map position (take adding.taken.count entry))
            → q ∈ map position (take r.count exit)
        at_hand q h k inside (inl m) = is_taken ready.light (numbers_from adding.run.behind (behind - adding.run.behind)) a inside m
        at_hand q h k inside (inr m) = still_taken ready.light (numbers_from adding.run.behind (behind - adding.run.behind)) a inside m

pub returns-then-not-follows : goal.returns-then-not-follows
returns-then-not-follows c = alone c.requires.ready _ _ c.add_positions-taken.ensures

pub returns-then-behind-from : goal.returns-then-behind-from
returns-then-behind-from c = let follows = sym c.follows.ensures ∙ c.if-not-follows.false in
    within-run c.requires.ready _ _ c.requires.run_taken follows c.if-behind-from.true

pub returns : goal.returns
returns c = let follows = sym c.follows.ensures ∙ c.if-not-follows.false in
    longer c.requires.ready _ _ c.requires.run_taken follows c.add_positions-taken-2.ensures
