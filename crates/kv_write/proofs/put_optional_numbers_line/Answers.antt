-- By whether the numbers are present.
use borrow.Author.Rules.{rules}
use Rattle.definitions.specs.Lists.{only_if}
use Rattle.definitions.specs.Numbers.{written_or_missing}
use Rattle.kv_write.proofs.put_optional_numbers_line.Goals as goal

pub put_numbers_line-requires : goal.put_numbers_line-requires
unfolding only_if written_or_missing
put_numbers_line-requires c = rw c.if-present.true at c.requires

pub returns-then-present : goal.returns-then-present
unfolding only_if written_or_missing
returns-then-present c = rw c.if-present.true c.put_numbers_line.ensures

pub put_missing_line-requires : goal.put_missing_line-requires
unfolding only_if written_or_missing
put_missing_line-requires c = rw c.if-present.false at c.requires

pub returns : goal.returns
unfolding only_if written_or_missing
returns c = rw c.if-present.false c.put_missing_line.ensures
