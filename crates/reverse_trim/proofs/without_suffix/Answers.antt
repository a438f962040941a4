-- Letters lose their last.
use borrow.Author.Rules.{rules}
use borrow.Author.Tests.{not-false, not-true}
use lib.ListN.{length-take}
use mathlib.Core.Path.{◌∙◌, sym}
use native.Mathlib.Omega.{arith}
use Rattle.reverse_trim.proofs.Trimmed.{all_trimmed, letters_trimmed, others_stay}
use Rattle.reverse_trim.proofs.without_suffix.Goals as goal

pub returns-then-not-is_letter_allele : goal.returns-then-not-is_letter_allele
returns-then-not-is_letter_allele c = sym (others_stay _ _ (sym (c.is_letter_allele.ensures) ∙ c.if-not-is_letter_allele.true))

pub returns-then-field-clip : goal.returns-then-field-clip
returns-then-field-clip c = sym (all_trimmed _ _ (sym (c.is_letter_allele.ensures) ∙ c.if-not-is_letter_allele.false) c.if-field-clip.true)

pub slice_bounds-result-length : goal.slice_bounds-result-length
slice_bounds-result-length c = simp length-take (omega arith)

pub returns : goal.returns
returns c = sym (letters_trimmed _ _ (sym (c.is_letter_allele.ensures) ∙ c.if-not-is_letter_allele.false))
