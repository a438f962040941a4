-- A letter allele counts.
use borrow.Author.Rules.{rules}
use mathlib.Core.Path.{◌∙◌, sym}
use Rattle.reverse_trim.proofs.clip_with.Goals as goal

pub returns-then-is_letter_allele : goal.returns-then-is_letter_allele
returns-then-is_letter_allele c = rw (sym (c.is_letter_allele.ensures) ∙ c.if-is_letter_allele.true) (c.common_ending.ensures)

pub returns : goal.returns
returns c = rw (sym (c.is_letter_allele.ensures) ∙ c.if-is_letter_allele.false)
