-- The loop's invariant: the places joined so far, and what the last one comes to with those behind it.
use Prim.Native.Nat.{◌+◌, ◌-◌, ◌<◌, ◌≤◌, suc, ℕ}
use borrow.Author.Rules.{rules}
use borrow.Author.Tests.{eq-eqb, ne_eqb}
use lib.ListN.{drop, drop_of_length-le, get_or, length, length-set, set, take}
use lib.Seq.{append_snoc, drop-cons, drop-set-lt, take-suc-set}
use mathlib.Core.List.{List, [], ◌++◌, ◌∷◌}
use mathlib.Core.Logic.{⊎_elim}
use mathlib.Core.Path.{◌∙◌, ◌≡◌, ap, refl, sym}
use native.Mathlib.Numerals.{add-one}
use native.Mathlib.Omega.{arith}
use Rattle.laws.proofs.Every.{Every, every_uncons}
use Rattle.laws.proofs.Places.{join_from, join_places, joined, joined_light, low_part, no_change, position, position_joined, two_fit, two_light, weights}
use Rattle.breakpoint_windows.specs.Fillings.{Joinable, past_all}
use Rattle.breakpoint_windows.proofs.join_places.Invariants.{Inv}
use Rattle.breakpoint_windows.proofs.join_places.Goals as goal
use Rattle.breakpoint_windows.proofs.join_places.Goals.{then-last-x, else-last-x}

none_there : (entry : List ℕ) → length entry ≡ 0 → [] ≡ join_places entry
unfolding join_places
none_there [] h = refl
none_there (x ∷ l) h = absurd (omega arith)

start : (entry : List ℕ) → 0 < length entry → Joinable entry → Inv entry entry (get_or entry 0 0) 0 1
unfolding join_places
start [] h j = absurd (omega arith)
start (x ∷ l) h j =
    let (first, others) = every_uncons j.small in
    record { long = refl; below = omega arith; within = omega arith; left = refl; light = j.light; small = first; rest = others }

module _ {entry places : List ℕ} {last at k : ℕ} (inv : Inv entry places last at k) where
  here : at < length places
  here = omega (arith, inv.long, inv.below, inv.within)

  -- the last one takes its place
  ended : length places ≤ k → take (at + 1) (set places at last) ≡ join_places entry
  unfolding join_from
  ended h = rw (add-one at, take-suc-set places at last here) (rw (drop_of_length-le places h) at inv.left)

  module _ (h : k < length places) where
    abbrev x : ℕ
    x = get_or places k 0

    abbrev behind : List ℕ
    behind = drop (suc k) places

    next : drop k places ≡ x ∷ behind
    next = drop-cons places k 0 h

    light-next : weights (last ∷ x ∷ behind) < no_change
    light-next = rw (← next) inv.light

    rest-next : (position x < past_all) × Every (λ e. position e < past_all) (behind)
    rest-next = every_uncons (rw next at inv.rest)

    left_next : take at places ++ join_from last (x ∷ behind) ≡ join_places entry
    left_next = rw (← next) inv.left

    -- the next one has the same position
    module _ (same : position last ≡ position x) where
      two : (no_change ≤ low_part last + low_part x) × (low_part last + low_part x - no_change < 4294967296)
      two = two_fit (low_part last) (low_part x) (two_light last x (behind) same light-next)

      joins : join_from last (x ∷ behind) ≡ join_from (joined last x) (behind)
      unfolding join_from
      joins = rw (eq-eqb (position last) (position x) same)

      turn_joined : Inv entry places (joined last x) at (suc k)
      turn_joined =
          let at_last = position_joined last x (two_light last x (behind) same light-next) in
          let lighter = joined_light last x (behind) same light-next in
          record {
            long = inv.long;
            below = omega (arith, inv.below);
            within = rw inv.long at h;
            left = ap (λ (l : List ℕ). take at places ++ l) (sym joins) ∙ left_next;
            light = omega (arith, light-next);
            small = omega (arith, inv.small);
            rest = rest-next.1;
          }

    -- the next one has another position
    turn-other : (position last ≡ position x → ⊥) → Inv entry (set places at last) x (suc at) (suc k)
    unfolding join_from weights
    turn-other apart =
        let same_rest = drop-set-lt (suc k) places at last (omega (arith, inv.below)) in
        record {
          long = simp length-set inv.long;
          below = omega (arith, inv.below);
          within = rw inv.long at h;
          left =
              rw (same_rest, take-suc-set places at last here, append_snoc)
              (rw (ne_eqb (position last) (position x) apart) at left_next);
          light = rw same_rest (omega (arith, light-next));
          small = rest-next.0;
          rest = rw same_rest rest-next.1;
        }

pub returns-then-len-eq0 : goal.returns-then-len-eq0
returns-then-len-eq0 c = record { few = omega arith; joined = none_there _ c.if-len-eq0.true }

pub loop-k-init : goal.loop-k-init
loop-k-init c = start _ (omega arith) c.requires

pub overflow_add-last : goal.overflow_add-last
overflow_add-last c = let small = c.loop-k.invariant.small in
    search rules

pub overflow_sub-last : goal.overflow_sub-last
overflow_sub-last c = let enough = two c.loop-k.invariant (omega arith) c.if-last-x.true in
    omega (arith, enough.0)

pub loop-k-preserved : goal.loop-k-preserved
loop-k-preserved c =
    elim c.if-last-x.branch [
      | then-last-x w ↦
          rw (w.places-is, w.last-is, w.at-is, add-one c.loop-k.k) (turn_joined c.loop-k.invariant (omega arith) w.if-last-x.true)
      | else-last-x w ↦
          rw (w.places-is, w.last-is, w.at-is, add-one c.loop-k.at, add-one c.loop-k.k)
          (turn-other c.loop-k.invariant (omega arith) w.if-last-x.false)
    ]

pub returns : goal.returns
returns c = let inv = c.loop-k.invariant in
    record { few = omega (arith, inv.below, inv.within); joined = ended inv (omega (arith, inv.long)) }
