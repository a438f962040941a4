-- What is shown first.
use borrow.Author.Rules.{rules}
use borrow.Author.Tests.{not-false, not-true}
use mathlib.Core.Path.{◌∙◌, sym}
use Rattle.marker_sums.proofs.is_met.Goals as goal

pub returns-then-not-is_set : goal.returns-then-not-is_set
returns-then-not-is_set c = rw (sym (c.is_set.ensures) ∙ c.if-not-is_set.true)

pub all_met-requires : goal.all_met-requires
all_met-requires c = c.requires

pub returns : goal.returns
returns c = rw (sym (c.is_set.ensures) ∙ c.if-not-is_set.false) (c.all_met.ensures)
