-- The value of the line, if it may be wanted.
use mathlib.Core.Path.{◌∙◌, sym}
use Rattle.definitions.specs.Bytes.{text}
use Rattle.definitions.specs.Lines.{key_of}
use Rattle.definitions.specs.SelectionSheet.{wanted_allele}
use Rattle.kv_text.proofs.Lines.{read_absent, read_right, read_wrong}
use Rattle.marker_groups.proofs.Values.{not_wanted, wanted_as_read}
use Rattle.marker_groups.proofs.allele_line.Goals as goal

pub returns-in_err-value : goal.returns-in_err-value
unfolding key_of text
returns-in_err-value c = rw c.from_residual.ensures (read_absent _ _ _ wanted_allele c.in_err-value.ensures.0)

pub returns-then-not-is_wanted : goal.returns-then-not-is_wanted
unfolding key_of text
returns-then-not-is_wanted c =
    read_wrong _ _ _ wanted_allele _ _ c.in_ok-value.ensures.0 (not_wanted _ (rw c.part.ensures at (sym c.is_wanted.ensures ∙ c.if-not-is_wanted.true)))

pub returns : goal.returns
unfolding key_of text
returns c =
    read_right _ _ _ wanted_allele _ _ _ c.in_ok-value.ensures.0
    (wanted_as_read _ (rw c.part.ensures at (sym c.is_wanted.ensures ∙ c.if-not-is_wanted.false)))
