-- A reference that is not lent is not looked at.
use borrow.Author.Rules.{rules}
use mathlib.Core.Path.{◌∙◌}
use Rattle.definitions.specs.Checked.{is_accepted}
use Rattle.definitions.specs.ClipAndReference.{optional_groups}
use Rattle.definitions.specs.Lists.{only_if}
use Rattle.combine_gvcfs.proofs.reference_in_order.Goals as goal

pub returns-then-not-referenced : goal.returns-then-not-referenced
unfolding is_accepted optional_groups only_if
returns-then-not-referenced c = rw c.if-not-referenced.true

pub returns-else-not-referenced : goal.returns-else-not-referenced
unfolding only_if
returns-else-not-referenced c = c.check_reference.ensures ∙ rw c.if-not-referenced.false
