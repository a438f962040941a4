-- A clip that is not lent is not looked at.
use borrow.Author.Rules.{rules}
use mathlib.Core.Path.{◌∙◌}
use Rattle.definitions.specs.Checked.{is_accepted}
use Rattle.definitions.specs.ClipAndReference.{optional_groups}
use Rattle.definitions.specs.Lists.{only_if}
use Rattle.combine_gvcfs.proofs.clip_in_order.Goals as goal

pub returns-then-not-clipped : goal.returns-then-not-clipped
unfolding is_accepted optional_groups only_if
returns-then-not-clipped c = rw c.if-not-clipped.true

pub returns-else-not-clipped : goal.returns-else-not-clipped
unfolding only_if
returns-else-not-clipped c = c.check_clip.ensures ∙ rw c.if-not-clipped.false
