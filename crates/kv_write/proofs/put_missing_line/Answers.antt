-- `.` is the text of a missing value.
use borrow.Author.Rules.{rules}
use Rattle.definitions.specs.Bytes.{text}
use Rattle.kv_write.proofs.put_missing_line.Goals as goal

pub put_line-requires : goal.put_line-requires
unfolding text
put_line-requires c = c.requires

pub returns : goal.returns
unfolding text
returns c = c.put_line.ensures
