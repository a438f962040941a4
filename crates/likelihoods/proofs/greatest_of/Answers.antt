-- The greatest so far, and what is left to compare with it.
use lib.Ieee.{nan}
use mathlib.Core.Path.{◌∙◌, sym}
use Rattle.definitions.specs.AlleleSubset.{greater}
use Rattle.likelihoods.proofs.Greatest.{greatest_first, others}
use Rattle.likelihoods.proofs.Loops.{fold_end, fold_next}
use Rattle.likelihoods.proofs.greatest_of.Goals as goal

pub loop-v-init : goal.loop-v-init
loop-v-init c = sym (greatest_first c.args.values.now c.requires)

pub loop-v-preserved : goal.loop-v-preserved
loop-v-preserved c = rw c.greater_of-best.ensures
    (sym (fold_next greater (others c.args.values.now) nan c.loop-v.v-index c.loop-v.best c.loop-v-test.true) ∙ c.loop-v.invariant)

pub returns : goal.returns
returns c = sym (fold_end greater (others c.args.values.now) nan c.loop-v.v-index c.loop-v.best c.loop-v-test.false) ∙ c.loop-v.invariant
