-- By where the next PL stands: the first or below the least, the least again, or above it.
use Prim.Native.Nat.{◌≤◌}
use borrow.Author.Rules.{rules}
use borrow.Author.Tests.{ltb-false, ltb-true}
use mathlib.Core.Logic.{⊎_elim}
use mathlib.Core.Path.{◌∙◌, ap, sym}
use native.Mathlib.Omega.{arith}
use Rattle.laws.proofs.GqInOneReading.{step_again, step_first, step_higher, step_lower}
use Rattle.genotyping.specs.OneReading.{count_held, most_count}
use Rattle.genotyping.proofs.OneReading.{held}
use Rattle.genotyping.proofs.with_next_pl.Goals as goal

pub returns-then-count-eq0 : goal.returns-then-count-eq0
unfolding count_held
returns-then-count-eq0 c = ⊎_elim
    (λ w. sym (ap count_held (step_first _ _ _ _ w)))
    (λ w. sym (ap count_held (step_lower _ _ _ _ w.1)))
    c.then-count-eq0.either

pub returns-then-p-least-2 : goal.returns-then-p-least-2
unfolding count_held
returns-then-p-least-2 c = rw c.count_more-more.ensures (sym (ap count_held (step_again _ _ _ _ (omega arith) c.if-p-least-2.true)))

pub returns : goal.returns
returns c = let t = c.args.t in
    let p = c.args.p in
    let not-below : t.least ≤ p = c.if-p-least.false in
    let count_fits : t.count ≤ most_count = omega (arith, c.well_formed.0) in
    let step = step_higher t.least t.count t.second p (omega arith) (omega arith) in
    rw c.lesser_second-lower.ensures (sym (ap count_held step ∙ held t.least t.count _ count_fits))
