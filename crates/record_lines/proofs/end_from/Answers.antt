-- By whether the last position is past the first.
use borrow.Author.Rules.{rules}
use borrow.Author.Tests.{le-ltb, lt-ltb}
use native.Mathlib.Omega.{arith}
use Rattle.definitions.specs.Lists.{only_if}
use Rattle.definitions.specs.Numbers.{max_number}
use Rattle.record_lines.proofs.end_from.Goals as goal

pub overflow_cast-result : goal.overflow_cast-result
unfolding max_number
overflow_cast-result c = omega (arith, c.get-end.ensures, c.requires)

pub returns-then-get-end : goal.returns-then-get-end
unfolding only_if
returns-then-get-end c = rw (← c.get-end.ensures, ← c.get.ensures, lt-ltb _ _ c.if-get-end.true)

pub returns : goal.returns
unfolding only_if
returns c = rw (← c.get-end.ensures, ← c.get.ensures, le-ltb _ _ c.if-get-end.false)
