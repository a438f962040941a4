-- `*` and `<NON_REF>` are no letters.
use mathlib.Core.Path.{◌∙◌, sym}
use Rattle.definitions.specs.Alleles.{spelled}
use Rattle.definitions.specs.Bytes.{text}
use Rattle.merged_alleles.proofs.Turns.{adds_nothing, letters_extended, no_letters_star, no_letters_symbol}
use Rattle.merged_alleles.specs.Alts.{Added}
use Rattle.merged_alleles.proofs.extend_allele.Goals as goal

pub returns-then-is_span_del : goal.returns-then-is_span_del
unfolding Added spelled text
returns-then-is_span_del c = rw (no_letters_star _ _ (sym c.is_span_del.ensures ∙ c.if-is_span_del.true)) (adds_nothing c.requires.0)

pub returns-then-is_non_ref : goal.returns-then-is_non_ref
unfolding Added spelled text
returns-then-is_non_ref c = rw (no_letters_symbol _ _ (sym c.is_non_ref.ensures ∙ c.if-is_non_ref.true)) (adds_nothing c.requires.0)

pub returns : goal.returns
unfolding spelled text
returns c = rw (letters_extended _ _ (sym c.is_span_del.ensures ∙ c.if-is_span_del.false)
    (sym c.is_non_ref.ensures ∙ c.if-is_non_ref.false)) c.add_allele.ensures
