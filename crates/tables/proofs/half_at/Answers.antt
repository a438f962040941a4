-- By whether the place is even.
use borrow.Author.Tests.{eq-eqb, ne_eqb}
use Rattle.tables.specs.Tables.{half_at}
use borrow.Author.Rules.{rules}
use Rattle.tables.proofs.half_at.Goals as goal

pub returns-then-place-eq0 : goal.returns-then-place-eq0
unfolding half_at
returns-then-place-eq0 c = rw (eq-eqb _ _ c.if-place-eq0.true)

pub returns : goal.returns
unfolding half_at
returns c = rw (ne_eqb _ _ c.if-place-eq0.false)
