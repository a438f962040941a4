-- The places from an offset on are left.
use Prim.Native.Nat.{◌-◌, ℕ}
use lib.ListN.{length}
use mathlib.Core.Option.{Option, get_or}
use mathlib.Core.Path.{◌∙◌, ap, refl}
use native.Mathlib.Omega.{arith}
use Rattle.asked_places.specs.Asked.{PairRead}
use Rattle.definitions.specs.LookUp.{no_record}
use Rattle.site_groups.proofs.Refusals.{err_is, none_is}
use Rattle.position_lookup.proofs.Searching.{number_is, searching_end, searching_few, searching_next, searching_refused, searching_stands, searching_start, searching_wrong}
use Rattle.position_lookup.specs.Found.{PairsReady, PairsSearched, Reaches}
use Rattle.position_lookup.proofs.search_pairs.Goals as goal

pub loop-at-init : goal.loop-at-init
loop-at-init c = λ ready. searching_start _ _ _ _ ready _ c.first_group.ensures

pub returns-in_err-pair : goal.returns-in_err-pair
unfolding PairRead PairsSearched
returns-in_err-pair c = λ ready.
    searching_wrong _ _ _ _ ready (c.loop-at.invariant ready) c.loop-at-test.true (rw c.in_err-pair.ensures.ok_part at c.pair_at.ensures)

pub reach-requires : goal.reach-requires
reach-requires c = c.requires.few

pub returns-in_err-standing : goal.returns-in_err-standing
unfolding PairRead Reaches PairsSearched
returns-in_err-standing c = λ ready.
    rw (err_is _ _ c.from_residual-in_err-standing.ensures.1)
    (searching_refused _ _ _ _ ready (c.loop-at.invariant ready) c.loop-at-test.true
    (rw c.in_ok-pair.ensures.ok_part at c.pair_at.ensures) (rw c.part-contig.ensures at c.in_err-standing.ensures))

pub holder-requires : goal.holder-requires
unfolding PairRead Reaches
holder-requires c = searching_stands _ _ _ _ c.requires (c.loop-at.invariant c.requires) c.loop-at-test.true
    (rw c.in_ok-pair.ensures.ok_part at c.pair_at.ensures) (rw c.part-contig.ensures at c.in_ok-standing.ensures)

pub overflow_add-count : goal.overflow_add-count
unfolding PairRead
overflow_add-count c = omega (
  arith,
  searching_few _ _ _ _ c.requires (c.loop-at.invariant c.requires) c.loop-at-test.true
      (rw c.in_ok-pair.ensures.ok_part at c.pair_at.ensures),
)

pub loop-at-smaller : goal.loop-at-smaller
unfolding PairRead
loop-at-smaller c = let to = rw c.in_ok-pair.ensures.ok_part at c.pair_at.ensures in omega (arith, to.forward, to.within)

pub loop-at-preserved : goal.loop-at-preserved
unfolding PairRead Reaches
loop-at-preserved c = λ ready.
    let to = rw c.in_ok-pair.ensures.ok_part at c.pair_at.ensures in
    let reached = rw c.part-contig.ensures at c.in_ok-standing.ensures in
    rw c.store.ensures (searching_next _ _ _ _ ready (c.loop-at.invariant ready) c.loop-at-test.true to reached
    (λ stands. c.unwrap_or-number.ensures ∙ number_is c.holder.result ∙ ap (λ (o : Option ℕ). get_or o no_record) (rw c.part-contig.ensures at (c.holder.ensures stands))))

pub returns : goal.returns
unfolding PairsSearched
returns c = λ ready. searching_end _ _ _ _ ready (c.loop-at.invariant ready) c.loop-at-test.false refl
