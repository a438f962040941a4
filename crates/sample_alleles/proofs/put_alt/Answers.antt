-- By how the ALT is spelled, and by whether the site starts at the position.
use borrow.Author.Tests.{not-false, not-true}
use mathlib.Core.Path.{◌∙◌, sym}
use Rattle.sample_alleles.proofs.Places.{put_none, put_same}
use Rattle.sample_alleles.proofs.Readings.{letters_as, longer_as, non_ref_as, rest, shorter_as, span_del_as}
use borrow.Author.Rules.{rules}
use Rattle.sample_alleles.proofs.put_alt.Goals as goal

pub returns-then-nonref : goal.returns-then-nonref
returns-then-nonref c = sym (put_none _ _ _ _ _ (λ k. non_ref_as _ _ _ _ _ (sym c.requires.0 ∙ c.if-nonref.true)))

pub returns-then-alt-own : goal.returns-then-alt-own
returns-then-alt-own c = rw (c.if-not-starts.true)
    (c.put_span_del.ensures ∙ sym (put_same _ _ _ _ _ _
    (λ k. shorter_as _ _ _ (sym c.requires.0 ∙ c.if-nonref.false) _ c.if-alt-own.true)))

pub returns-else-alt-own : goal.returns-else-alt-own
returns-else-alt-own c = rw (c.if-not-starts.true)
    (sym (put_none _ _ _ _ _ (λ k. longer_as _ _ _ (sym c.requires.0 ∙ c.if-nonref.false) _ c.if-alt-own.false)))

pub returns-then-is_span_del : goal.returns-then-is_span_del
returns-then-is_span_del c = rw (c.if-not-starts.false)
    (c.put_span_del-then-is_span_del.ensures ∙ sym (put_same _ _ _ _ _ _
    (λ k. span_del_as _ _ _ (sym c.requires.0 ∙ c.if-nonref.false) _
    (sym c.is_span_del.ensures ∙ c.if-is_span_del.true))))

pub returns : goal.returns
returns c = rw (c.if-not-starts.false)
    (rw (c.part-tail.ensures, rest c.args.reference.now _) at c.put_extended.ensures
    ∙ sym (put_same _ _ _ _ _ _ (λ k. letters_as _ _ _ (sym c.requires.0 ∙ c.if-nonref.false) _
    (sym c.is_span_del.ensures ∙ c.if-is_span_del.false))))
