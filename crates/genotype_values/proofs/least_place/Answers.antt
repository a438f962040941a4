-- The place found from the best so far and what is left is that found from all.
use Prim.Native.Nat.{◌-◌}
use borrow.Author.Rules.{rules}
use lib.ListN.{drop}
use mathlib.Core.Path.{◌∙◌, ◌≡◌, refl, sym}
use Rattle.genotype_values.proofs.Best.{place_end_lem, place_less, place_other, place_start, place_from}
use Rattle.genotype_values.specs.Values.{least_place}
use Rattle.genotype_values.proofs.least_place.Goals as goal
use Rattle.genotype_values.proofs.least_place.Goals.{then-x-least, else-x-least}

pub loop-i-init : goal.loop-i-init
loop-i-init c = rw c.value_or-least.ensures (place_start c.args.pl.now)

pub loop-i-preserved : goal.loop-i-preserved
loop-i-preserved c =
    let pl = c.args.pl.now in
    let loop = c.loop-i in
    let there = c.loop-i-test.true in
    elim c.if-x-least.branch [
      | then-x-least w ↦ rw (w.best-is, w.least-is) (place_less pl loop.best loop.least loop.i there refl w.if-x-least.true ∙ loop.invariant)
      | else-x-least w ↦ rw (w.best-is, w.least-is) (place_other pl loop.best loop.least loop.i there refl w.if-x-least.false ∙ loop.invariant)
    ]

pub returns : goal.returns
returns c = sym (place_end_lem c.args.pl.now _ _ _ c.loop-i-test.false) ∙ c.loop-i.invariant
