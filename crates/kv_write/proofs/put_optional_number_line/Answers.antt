-- By whether the number is missing.
use borrow.Author.Rules.{rules}
use Rattle.definitions.specs.Numbers.{written_or_missing}
use Rattle.kv_write.proofs.put_optional_number_line.Goals as goal

pub put_missing_line-requires : goal.put_missing_line-requires
unfolding written_or_missing
put_missing_line-requires c = rw c.in-None.is at c.requires

pub put_number_line-requires : goal.put_number_line-requires
unfolding written_or_missing
put_number_line-requires c = rw c.in-Some.is at c.requires

pub returns-in-None : goal.returns-in-None
unfolding written_or_missing
returns-in-None c = rw c.in-None.is c.put_missing_line.ensures

pub returns-in-Some : goal.returns-in-Some
unfolding written_or_missing
returns-in-Some c = rw c.in-Some.is c.put_number_line.ensures
