-- The loop's invariant: the breakpoints of the sites before this one are added.
use Prim.Native.Nat.{◌+◌, ◌-◌, ◌<◌, ◌≤◌, ℕ}
use borrow.Author.Rules.{rules}
use lib.ListN.{get_or, length, take}
use lib.Seq.{take_all, take-suc}
use mathlib.Core.List.{List, [], ◌++◌, ◌∷◌, append-nil, flat_map, map, map-append}
use mathlib.Core.Logic.{inl}
use mathlib.Core.Path.{◌∙◌, ◌≡◌, refl}
use native.Mathlib.Numerals.{add-one}
use native.Mathlib.Omega.{arith}
use Rattle.laws.proofs.Every.{every_at, nothing}
use Rattle.laws.proofs.Fillings.{filling_start, plain_weigh, plain_place}
use Rattle.laws.proofs.Members.{flat_map_append}
use Rattle.laws.proofs.Places.{no_change, weights}
use Rattle.breakpoint_windows.proofs.Fills.{fills_then}
use Rattle.breakpoint_windows.specs.Breakpoints.{row_breakpoints}
use Rattle.breakpoint_windows.specs.Fillings.{AddedRun, FromNone, RunTaken, past_all}
use Rattle.breakpoint_windows.specs.declared.Adding.{Adding}
use Rattle.breakpoint_windows.proofs.add_sites.Invariants.{Inv, of_sites}
use Rattle.breakpoint_windows.proofs.add_sites.Goals as goal

-- nothing is taken, and no position is in the run
start : (rows sites : List ℕ) (past : ℕ) (places : List ℕ) → 2 ≤ length places
    → Inv rows sites past places places (record { taken = record { count = 0; limit = past_all }; run = record { first = 0; behind = 0 } }) 0
unfolding of_sites flat_map weights
start rows sites past places two = record {
  long = refl;
  filled = record {
    ready = record { room = two; within_places = omega arith; limited = omega arith; inside = nothing; light = omega arith };
    fills = record { filling = filling_start past past_all; limited = inl refl };
  };
  run = record { at_hand = λ p h k inside. absurd (omega arith) };
}

-- the breakpoints of one site more
next-site : (rows sites : List ℕ) (i : ℕ) → i < length sites
    → map plain_place (of_sites rows (take (i + 1) sites))
    ≡ map plain_place (of_sites rows (take i sites)) ++ map plain_place (row_breakpoints rows (get_or sites i 0))
unfolding of_sites flat_map
next-site rows sites i h =
    let site = get_or sites i 0 in
    rw (add-one i, take-suc sites i 0 h, flat_map_append (row_breakpoints rows) (take i sites) (site ∷ []), append-nil (row_breakpoints rows site))
    (map-append plain_place (flat_map (row_breakpoints rows) (take i sites)) (row_breakpoints rows site))

plain-only : (ps : List ℕ) → weights (map plain_place ps) ≡ 0
unfolding weights
plain-only ps = plain_weigh [] ps

module _ {rows sites : List ℕ} {past : ℕ} {places₀ places : List ℕ} {adding : Adding} {i : ℕ} (inv : Inv rows sites past places₀ places adding i) where
  turn : {places' : List ℕ} {r : Adding} → i < length sites → length places' ≡ length places
      → AddedRun past adding (map plain_place (row_breakpoints rows (get_or sites i 0))) places places' r → Inv rows sites past places₀ places' r (i + 1)
  turn h long a =
      let before = of_sites rows (take i sites) in
      let here = row_breakpoints rows (get_or sites i 0) in
      let light : weights (map plain_place before ++ map plain_place here) < no_change =
      omega (arith, plain_weigh (map plain_place before) here, plain-only before) in
      record {
        long = long ∙ inv.long;
        filled = rw (next-site rows sites i h) (record {
          ready = a.added.ready;
          fills = fills_then past past_all (map plain_place here) light inv.filled.fills a.added.fills;
        });
        run = a.run;
      }

  ended : length sites ≤ i → FromNone past (map plain_place (flat_map (row_breakpoints rows) sites)) places adding.taken
  unfolding of_sites
  ended h = rw (take_all i sites h) at inv.filled

pub loop-site-init : goal.loop-site-init
loop-site-init c = start _ _ _ _ c.requires.in_bounds

pub add_site-adding-requires : goal.add_site-adding-requires
add_site-adding-requires c = let rows = c.requires.every in
    record { row_in_range = every_at _ 0 c.loop-site-test.true rows; ready = c.loop-site.invariant.filled.ready; run_taken = c.loop-site.invariant.run }

pub loop-site-preserved : goal.loop-site-preserved
loop-site-preserved c = let put = c.add_site-adding in
    turn c.loop-site.invariant c.loop-site-test.true put.auto.places put.ensures

pub shape_of-places : goal.shape_of-places
shape_of-places c = c.loop-site.invariant.long

pub returns : goal.returns
returns c = ended c.loop-site.invariant c.loop-site-test.false
