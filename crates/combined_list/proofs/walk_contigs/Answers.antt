-- In each turn a contig's records are laid; those of the contigs from the next on are left.
use Prim.Native.Nat.{◌-◌, ℕ}
use borrow.Author.Rules.{rules}
use Rattle.std.proofs.lemmas.Result.{err_from_is_err_and}
use lib.ListN.{length}
use mathlib.Core.Bool.{Bool}
use mathlib.Core.List.{List}
use mathlib.Core.Path.{◌∙◌, ◌≡◌, refl}
use native.Mathlib.Omega.{arith}
use Rattle.combined_list.proofs.AllContigs.{Going, going_end, going_next, going_refused, going_start, one_ready}
use Rattle.combined_list.specs.Contigs.{AllReady, ContigRoom}
use Rattle.combined_list.proofs.walk_contigs.Invariants.{Inv}
use Rattle.contig_walk.specs.declared.ListEnd.{ListEnd}
use Rattle.combined_list.proofs.walk_contigs.Goals as goal

module _ {s rows : List ℕ} {samples : ℕ} {clipped : Bool} {clip : List ℕ} {referenced : Bool} {reference contigs order runs : List ℕ}
    {chosen₀ scratch₀ held₀ fresh₀ alts₀ out₀ : List ℕ} {at : ℕ} {chosen scratch held fresh alts out : List ℕ} {end : ListEnd} {c : ℕ}
    (inv : Inv s rows samples clipped clip referenced reference contigs order runs chosen₀ scratch₀ held₀ fresh₀ alts₀ out₀ at
    chosen scratch held fresh alts out end c) where
  room_here : ContigRoom order chosen₀ scratch₀ held₀ fresh₀ alts₀ → ContigRoom order chosen scratch held fresh alts
  room_here r = record {
    for_chosen = omega (arith, inv.chosen-long, r.for_chosen);
    for_window = omega (arith, inv.scratch-long, r.for_window);
    for_walk = record {
      for_held = omega (arith, inv.held-long, r.for_walk.for_held);
      for_fresh = omega (arith, inv.fresh-long, r.for_walk.for_fresh);
      for_alts = omega (arith, inv.alts-long, r.for_walk.for_alts);
    };
  }

pub loop-first-init : goal.loop-first-init
loop-first-init c = record {
  chosen-long = refl;
  scratch-long = refl;
  held-long = refl;
  fresh-long = refl;
  alts-long = refl;
  out-long = refl;
  going = λ ready. going_start ready;
}

pub walk_one-requires : goal.walk_one-requires
walk_one-requires c = (
  one_ready c.requires.0 (c.loop-first.invariant.going c.requires.0) c.loop-first-test.true,
  room_here c.loop-first.invariant c.requires.1,
)

pub returns-in_err-end : goal.returns-in_err-end
returns-in_err-end c = λ ready.
    let p = err_from_is_err_and c.from_residual.result c.from_residual.ensures.1 in
    rw (p.1, p.2) (going_refused ready (c.loop-first.invariant.going ready) c.loop-first-test.true _ _ c.in_err-end.ensures)

pub loop-first-preserved : goal.loop-first-preserved
loop-first-preserved c = record {
  chosen-long = c.walk_one.auto.chosen ∙ c.loop-first.invariant.chosen-long;
  scratch-long = c.walk_one.auto.scratch ∙ c.loop-first.invariant.scratch-long;
  held-long = c.walk_one.auto.held ∙ c.loop-first.invariant.held-long;
  fresh-long = c.walk_one.auto.fresh ∙ c.loop-first.invariant.fresh-long;
  alts-long = c.walk_one.auto.alts ∙ c.loop-first.invariant.alts-long;
  out-long = c.walk_one.auto.out ∙ c.loop-first.invariant.out-long;
  going = λ ready. going_next ready (c.loop-first.invariant.going ready) c.loop-first-test.true _ _ c.in_ok-end.ensures;
}

pub returns : goal.returns
returns c = λ ready. going_end ready (c.loop-first.invariant.going ready) c.loop-first-test.false
