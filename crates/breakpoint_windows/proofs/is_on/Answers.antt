-- The part is compared.
use borrow.Author.Rules.{rules}
use mathlib.Core.Path.{◌∙◌}
use Rattle.breakpoint_windows.proofs.is_on.Goals as goal

pub returns : goal.returns
returns c = c.same_bytes.ensures ∙ rw (c.part-name.ensures)
