-- Place by place.
use Prim.Native.Nat.{◌-◌, ℕ}
use borrow.Author.Rules.{rules}
use Rattle.std.proofs.lemmas.Result.{err_from_is_err_and}
use lib.ListN.{length}
use mathlib.Core.Bool.{Bool}
use mathlib.Core.List.{List}
use mathlib.Core.Path.{◌∙◌, ◌≡◌, refl}
use native.Mathlib.Omega.{arith}
use Rattle.contig_walk.specs.Laying.{TurnRoom}
use Rattle.window_walk.proofs.OneWindow.{Through, carrying, place_ready, same_room, through_end, through_next, through_start}
use Rattle.window_walk.specs.Windows.{Carrying, WalkedTo, WindowReady}
use Rattle.window_walk.specs.declared.Along.{Along}
use Rattle.window_walk.proofs.walk_window.Invariants.{Inv}
use Rattle.window_walk.proofs.walk_window.Goals as goal

module _ {s rows : List ℕ} {samples : ℕ} {clipped referenced : Bool}
    {reference contig chosen from₀ bounds places held₀ fresh₀ found₀ owners₀ alts₀ out₀ : List ℕ}
    {along₀ : Along} {from held fresh found owners alts out : List ℕ} {along : Along} {k : ℕ}
    (inv : Inv s rows samples clipped referenced reference contig chosen from₀ bounds places held₀ fresh₀ found₀ owners₀ alts₀ out₀ along₀
    from held fresh found owners alts out along k) where
  room_here : TurnRoom samples held₀ fresh₀ found₀ owners₀ alts₀ → TurnRoom samples held fresh found owners alts
  room_here r = same_room r inv.held-long inv.fresh-long inv.found-long inv.owners-long inv.alts-long

pub loop-place-init : goal.loop-place-init
loop-place-init c = record {
  from-long = refl;
  held-long = refl;
  fresh-long = refl;
  found-long = refl;
  owners-long = refl;
  alts-long = refl;
  out-long = refl;
  way = λ ready way. through_start ready way;
}

pub walk_place-requires : goal.walk_place-requires
unfolding place_ready
walk_place-requires c = let (ready, way) = c.requires in
    let t = c.loop-place.invariant.way ready way in
    (_, place_ready ready way t c.loop-place-test.true (room_here c.loop-place.invariant ready.room), carrying ready way t)

pub returns-in_err-along : goal.returns-in_err-along
unfolding place_ready carrying WalkedTo
returns-in_err-along c = λ ready way.
    let t = c.loop-place.invariant.way ready way in
    let room = room_here c.loop-place.invariant ready.room in
    let p = err_from_is_err_and c.from_residual.result c.from_residual.ensures.1 in
    rw (p.1, p.2) (c.in_err-along.ensures _ (place_ready ready way t c.loop-place-test.true room) (carrying ready way t))

pub loop-place-preserved : goal.loop-place-preserved
unfolding place_ready carrying WalkedTo
loop-place-preserved c = record {
  from-long = c.walk_place.auto.from ∙ c.loop-place.invariant.from-long;
  held-long = c.walk_place.auto.held ∙ c.loop-place.invariant.held-long;
  fresh-long = c.walk_place.auto.fresh ∙ c.loop-place.invariant.fresh-long;
  found-long = c.walk_place.auto.found ∙ c.loop-place.invariant.found-long;
  owners-long = c.walk_place.auto.owners ∙ c.loop-place.invariant.owners-long;
  alts-long = c.walk_place.auto.alts ∙ c.loop-place.invariant.alts-long;
  out-long = c.walk_place.auto.out ∙ c.loop-place.invariant.out-long;
  way = λ ready way.
      let t = c.loop-place.invariant.way ready way in
      let room = room_here c.loop-place.invariant ready.room in
      through_next ready way t c.loop-place-test.true
      (c.in_ok-along.ensures _ (place_ready ready way t c.loop-place-test.true room) (carrying ready way t));
}

pub returns : goal.returns
unfolding WalkedTo
returns c = λ ready way. through_end ready way (c.loop-place.invariant.way ready way) c.loop-place-test.false
