-- By whether the site starts there.
use mathlib.Core.Path.{◌∙◌, sym}
use Rattle.definitions.specs.MergedRef.{site_ref}
use Rattle.laws.proofs.AllelesAsRead.{ref_alts_as_read}
use Rattle.merged_ref.proofs.Starting.{start_elsewhere, start_there, tested_elsewhere, tested_there}
use Rattle.tables.specs.Tables.{site_at}
use Rattle.merged_ref.proofs.ref_agrees.Goals as goal

pub returns-then-get : goal.returns-then-get
returns-then-get c = tested_elsewhere _ _ _ (start_elsewhere _ _ _ _ (λ e. c.if-get.true (c.get.ensures ∙ c.start_of.ensures ∙ e ∙ sym c.get-2.ensures)))

pub returns : goal.returns
unfolding site_ref site_at ref_alts_as_read
returns c = c.is_prefix.ensures ∙ rw (c.reference_allele-mine.ensures) (tested_there _ _ _ (start_there _ _ _ _ (sym c.start_of.ensures ∙ sym c.get.ensures ∙ c.if-get.false ∙ c.get-2.ensures)))
