-- A dot has no names.
use borrow.Author.Rules.{rules}
use mathlib.Core.Path.{◌∙◌, sym}
use Rattle.definitions.specs.Bytes.{comma, text}
use Rattle.marker_groups.specs.Markers.{after_names}
use Rattle.marker_groups.proofs.count_names.Goals as goal

pub returns-then-same_bytes : goal.returns-then-same_bytes
unfolding after_names text
returns-then-same_bytes c = rw (sym (c.same_bytes.ensures) ∙ c.if-same_bytes.true)

pub returns : goal.returns
unfolding after_names text comma
returns c = rw (sym (c.same_bytes.ensures) ∙ c.if-same_bytes.false) (c.count_fields.ensures)
