-- The line with this key.
use borrow.Author.Rules.{rules}
use Rattle.definitions.specs.Bytes.{text}
use Rattle.files.proofs.Printing.{figure_keyed}
use Rattle.files.proofs.put_figure.Goals as goal

pub returns : goal.returns
unfolding text
returns c = rw (figure_keyed c.args.figure) c.put_number_line.ensures
