-- The letters first.
use mathlib.Core.Path.{◌∙◌, sym}
use Rattle.shown_alleles.proofs.is_shown.Goals as goal

pub returns-then-same_letters : goal.returns-then-same_letters
returns-then-same_letters c = rw (sym (c.same_letters.ensures) ∙ c.if-same_letters.true) (c.text_has.ensures)

pub returns-else-same_letters : goal.returns-else-same_letters
returns-else-same_letters c = rw (sym (c.same_letters.ensures) ∙ c.if-same_letters.false) c.if-same_letters.false
