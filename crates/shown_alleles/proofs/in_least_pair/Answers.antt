-- The loop's invariant: some place passes if one from here on does.
use mathlib.Core.Path.{◌∙◌, sym}
use Rattle.definitions.specs.SelectionSheet.{in_least_pair}
use Rattle.shown_alleles.proofs.Pairs.{any_end, any_here, any_next, any_start}
use Rattle.shown_alleles.proofs.in_least_pair.Goals as goal

pub loop-i-init : goal.loop-i-init
loop-i-init c = any_start _ _

pub returns-then-is_least_with : goal.returns-then-is_least_with
unfolding in_least_pair
returns-then-is_least_with c = any_here _ _ _ c.loop-i.invariant c.loop-i-test.true
    (rw c.least_pl-least.ensures at (sym c.is_least_with.ensures ∙ c.if-is_least_with.true))

pub loop-i-preserved : goal.loop-i-preserved
loop-i-preserved c = any_next _ _ _ c.loop-i.invariant c.loop-i-test.true
    (rw c.least_pl-least.ensures at (sym c.is_least_with.ensures ∙ c.if-is_least_with.false))

pub returns : goal.returns
unfolding in_least_pair
returns c = any_end _ _ _ (c.loop-i.invariant) (c.loop-i-test.false)
