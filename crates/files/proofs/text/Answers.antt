-- A part that begins where the buffer does.
use borrow.Author.Rules.{rules}
use Rattle.files.proofs.FileTexts.{from_start}
use Rattle.files.proofs.text.Goals as goal

pub returns : goal.returns
returns c = from_start c.args.buffer.now c.text_length-count.ensures c.part.ensures
