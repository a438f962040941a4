-- The value of the line, if it is up to four names.
use mathlib.Core.Path.{◌∙◌, sym}
use Rattle.definitions.specs.Bytes.{text}
use Rattle.definitions.specs.Lines.{key_of}
use Rattle.definitions.specs.SelectionSheet.{names_after}
use Rattle.kv_text.proofs.Lines.{read_absent, read_right, read_wrong}
use Rattle.laws.proofs.Tests.{not_there}
use Rattle.marker_groups.proofs.Values.{after_as_read}
use Rattle.marker_groups.proofs.after_line.Goals as goal

pub returns-in_err-value : goal.returns-in_err-value
unfolding key_of text
returns-in_err-value c = rw c.from_residual.ensures (read_absent _ _ _ names_after c.in_err-value.ensures.0)

pub returns-then-not-is_after : goal.returns-then-not-is_after
unfolding key_of text
returns-then-not-is_after c =
    read_wrong _ _ _ names_after _ _ c.in_ok-value.ensures.0 (not_there _ (rw c.part.ensures at (sym c.is_after.ensures ∙ c.if-not-is_after.true)))

pub returns : goal.returns
unfolding key_of text
returns c =
    read_right _ _ _ names_after _ _ _ c.in_ok-value.ensures.0
    (after_as_read _ (rw c.part.ensures at (sym c.is_after.ensures ∙ c.if-not-is_after.false))).0
