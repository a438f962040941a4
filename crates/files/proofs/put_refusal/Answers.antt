-- The line with this key.
use borrow.Author.Rules.{rules}
use Rattle.definitions.specs.Bytes.{text}
use Rattle.files.proofs.Printing.{refusal_keyed}
use Rattle.files.proofs.put_refusal.Goals as goal

pub returns : goal.returns
unfolding text
returns c = rw (refusal_keyed c.args.number) c.put_number_line.ensures
