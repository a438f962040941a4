-- The pairs from an offset on are left.
use Rattle.asked_places.proofs.Pairs.{counting_end, counting_many, counting_next, counting_start, counting_unordered, counting_wrong}
use Rattle.asked_places.specs.Asked.{PairRead, PlacesRead}
use mathlib.Core.Path.{◌∙◌, ◌≡◌, sym}
use native.Mathlib.Omega.{arith}
use Rattle.std.proofs.lemmas.Result.{err_from_is_err_and}
use Rattle.answers.specs.declared.Refusal.TheVariants.{Spelling}
use Rattle.asked_places.proofs.count_pairs.Goals as goal

pub loop-at-init : goal.loop-at-init
loop-at-init c = counting_start _ _ c.new_1based-position.ensures

pub returns-in_err-pair : goal.returns-in_err-pair
unfolding PairRead PlacesRead
returns-in_err-pair c =
    let p = err_from_is_err_and c.from_residual.result c.from_residual.ensures.1 in
    let none = c.in_err-pair.ensures.ok_part in
    let given = rw none at c.in_err-pair.ensures.value in
    let spelling : c.in_err-pair.field-0.0 ≡ Spelling = cc given in
    rw (p.1, p.2, spelling) (counting_wrong c.loop-at.invariant c.loop-at-test.true (rw none at c.pair_at.ensures))

pub returns-then-count-ge1024 : goal.returns-then-count-ge1024
unfolding PairRead PlacesRead
returns-then-count-ge1024 c = counting_many c.loop-at.invariant c.loop-at-test.true (rw c.in_ok-pair.ensures.ok_part at c.pair_at.ensures) c.if-count-ge1024.true

pub returns-then-not-not_after : goal.returns-then-not-not_after
unfolding PairRead PlacesRead
returns-then-not-not_after c =
    let told = rw (c.part-before.ensures, c.part-contig.ensures) at (sym c.not_after.ensures) in
    counting_unordered c.loop-at.invariant c.loop-at-test.true (rw c.in_ok-pair.ensures.ok_part at c.pair_at.ensures) (told ∙ c.if-not-not_after.true)

pub overflow_add-count : goal.overflow_add-count
overflow_add-count c = omega (arith, c.if-count-ge1024.false)

pub loop-at-smaller : goal.loop-at-smaller
unfolding PairRead
loop-at-smaller c = let to = rw c.in_ok-pair.ensures.ok_part at c.pair_at.ensures in omega (arith, to.forward, to.within)

pub loop-at-preserved : goal.loop-at-preserved
unfolding PairRead
loop-at-preserved c =
    let told = rw (c.part-before.ensures, c.part-contig.ensures) at (sym c.not_after.ensures) in
    counting_next c.loop-at.invariant c.loop-at-test.true (rw c.in_ok-pair.ensures.ok_part at c.pair_at.ensures) c.if-count-ge1024.false (told ∙ c.if-not-not_after.false)

pub returns : goal.returns
unfolding PlacesRead
returns c = counting_end c.loop-at.invariant c.loop-at-test.false
