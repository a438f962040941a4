-- Rows 5 and 14, and the list measured before it is written.
use borrow.Author.Rules.{rules}
use borrow.Author.Tests.{not-false, not-true}
use mathlib.Core.Path.{◌∙◌, sym}
use Rattle.reverse_trim.proofs.TrimmedList.{faulty_answered, fitting_answered, full_answered}
use Rattle.reverse_trim.proofs.reverse_trim_alleles.Goals as goal

pub returns-then-not-are_alleles : goal.returns-then-not-are_alleles
returns-then-not-are_alleles c = faulty_answered _ _ (sym (c.are_alleles.ensures) ∙ c.if-not-are_alleles.true)

pub reverse_suffix_clip_count-clip-requires : goal.reverse_suffix_clip_count-clip-requires
reverse_suffix_clip_count-clip-requires c = sym (c.are_alleles.ensures) ∙ c.if-not-are_alleles.false

pub returns-then-out-len : goal.returns-then-out-len
returns-then-out-len c = full_answered _ _ (sym (c.are_alleles.ensures) ∙ c.if-not-are_alleles.false) (c.reverse_suffix_clip_count-clip.ensures) (c.put_trimmed-len.ensures) c.if-out-len.true

pub returns : goal.returns
returns c = fitting_answered _ _ (sym (c.are_alleles.ensures) ∙ c.if-not-are_alleles.false) (c.reverse_suffix_clip_count-clip.ensures) (c.put_trimmed-len.ensures) c.if-out-len.false (c.put_trimmed.ensures)
