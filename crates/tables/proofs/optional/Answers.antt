-- By whether it is past the greatest number of a text.
use borrow.Author.Rules.{rules}
use borrow.Author.Tests.{le-leb, lt-leb}
use native.Mathlib.Omega.{arith}
use Rattle.definitions.specs.Lists.{only_if}
use Rattle.definitions.specs.Numbers.{max_number}
use Rattle.tables.specs.Tables.{code_option}
use Rattle.tables.proofs.optional.Goals as goal

pub returns-then-code-le2147483647 : goal.returns-then-code-le2147483647
unfolding code_option only_if max_number
returns-then-code-le2147483647 c = rw (le-leb _ _ c.if-code-le2147483647.true)

pub returns : goal.returns
unfolding code_option only_if max_number
returns c = rw (lt-leb c.args.code 2147483647 (omega arith))
