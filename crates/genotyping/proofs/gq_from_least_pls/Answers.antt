-- By how often the least occurs, and whether the second is below it.
use borrow.Author.Rules.{rules}
use borrow.Author.Tests.{eq-eqb, ne_eqb}
use native.Mathlib.Omega.{arith}
use Rattle.definitions.specs.CalledGenotypes.{gq_from_least_pls}
use Rattle.genotyping.proofs.gq_from_least_pls.Goals as goal

pub returns-then-count-ne1 : goal.returns-then-count-ne1
unfolding gq_from_least_pls
returns-then-count-ne1 c = rw (ne_eqb _ 1 c.if-count-ne1.true)

pub returns-then-second-least : goal.returns-then-second-least
unfolding gq_from_least_pls
returns-then-second-least c = rw (eq-eqb _ 1 c.if-count-ne1.false) (omega arith)

pub returns : goal.returns
unfolding gq_from_least_pls
returns c = rw (eq-eqb _ 1 c.if-count-ne1.false) (omega arith)
