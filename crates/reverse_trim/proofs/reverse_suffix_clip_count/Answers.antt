-- REF alone, REF with no letter ALT, or REF with some.
use borrow.Author.Rules.{rules}
use borrow.Author.Tests.{not-false, not-true}
use lib.ListN.{length-take}
use mathlib.Core.Path.{◌∙◌, sym}
use native.Mathlib.Omega.{arith}
use Rattle.reverse_trim.proofs.TrimmedList.{alone_count, none_count, several_count}
use Rattle.reverse_trim.proofs.reverse_suffix_clip_count.Goals as goal

pub returns-then-alleles-end : goal.returns-then-alleles-end
returns-then-alleles-end c = alone_count _ _ (c.field_end-end.ensures) c.if-alleles-end.true

pub returns-then-not-has_letter_alt : goal.returns-then-not-has_letter_alt
returns-then-not-has_letter_alt c = none_count _ _ (c.field_end-end.ensures) c.if-alleles-end.false (sym (c.has_letter_alt.ensures) ∙ c.if-not-has_letter_alt.true)

pub slice_bounds-common_clip-end : goal.slice_bounds-common_clip-end
slice_bounds-common_clip-end c = simp length-take (omega arith)

pub returns : goal.returns
returns c = c.common_clip.ensures ∙ several_count _ _ (c.field_end-end.ensures) c.if-alleles-end.false c.requires (sym (c.has_letter_alt.ensures) ∙ c.if-not-has_letter_alt.false)
