-- Letters in two parts; an allele of that length and those bytes is still no letters if it is `*` or `<NON_REF>`.
use borrow.Author.Tests.{not-false, not-true}
use lib.Seq.{length-take-le}
use mathlib.Core.Path.{◌∙◌, ap, sym}
use mathlib.Core.Bool.{not}
use mathlib.Core.List.{◌++◌}
use Rattle.sample_alleles.proofs.Readings.{other_front, other_length, other_tail, rest, same_parts, shorter_letters, span_del_letters}
use borrow.Author.Rules.{rules}
use Rattle.sample_alleles.proofs.is_extended.Goals as goal

pub returns-then-allele-n : goal.returns-then-allele-n
returns-then-allele-n c = sym (shorter_letters c.args.allele.now c.args.bases.now c.args.tail.now c.if-allele-n.true)

pub returns-then-allele-n-2 : goal.returns-then-allele-n-2
returns-then-allele-n-2 c = sym (other_length c.args.allele.now c.args.bases.now c.args.tail.now c.if-allele-n-2.true)

pub slice_bounds-same_letters-end : goal.slice_bounds-same_letters-end
slice_bounds-same_letters-end c = sym (length-take-le _ _ (c.if-allele-n.false))

pub returns-then-not-same_letters : goal.returns-then-not-same_letters
returns-then-not-same_letters c = sym (other_front c.args.allele.now c.args.bases.now c.args.tail.now
    (sym c.same_letters.ensures ∙ c.if-not-same_letters.true))

pub returns-then-not-same_letters-2 : goal.returns-then-not-same_letters-2
returns-then-not-same_letters-2 c = sym (other_tail c.args.allele.now c.args.bases.now c.args.tail.now
    (sym (rw (rest c.args.allele.now _) at c.same_letters-2.ensures) ∙ c.if-not-same_letters-2.true))

pub returns-then-is_span_del : goal.returns-then-is_span_del
returns-then-is_span_del c = sym (span_del_letters _ (c.args.bases.now ++ c.args.tail.now) (sym c.is_span_del.ensures ∙ c.if-is_span_del.true))

pub returns : goal.returns
returns c = ap not c.is_non_ref.ensures ∙ same_parts c.args.allele.now c.args.bases.now c.args.tail.now
    (sym c.same_letters.ensures ∙ c.if-not-same_letters.false)
    (sym (rw (rest c.args.allele.now _) at c.same_letters-2.ensures) ∙ not-false _
    c.if-not-same_letters-2.false-raw) (sym c.is_span_del.ensures ∙ c.if-is_span_del.false)
