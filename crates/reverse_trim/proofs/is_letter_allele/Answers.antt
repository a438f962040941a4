-- By its spelling.
use mathlib.Core.Bool.{not}
use mathlib.Core.Path.{◌∙◌, ap, sym}
use Rattle.reverse_trim.proofs.ClipCount.{other_spelled, star_spelled}
use Rattle.reverse_trim.proofs.is_letter_allele.Goals as goal

pub returns-then-not-is_span_del : goal.returns-then-not-is_span_del
returns-then-not-is_span_del c = ap not (c.is_non_ref.ensures) ∙ other_spelled _ (sym (c.is_span_del.ensures) ∙ c.if-not-is_span_del.true)

pub returns-else-not-is_span_del : goal.returns-else-not-is_span_del
returns-else-not-is_span_del c = ap not c.if-not-is_span_del.false ∙ star_spelled _ (sym (c.is_span_del.ensures) ∙ c.if-not-is_span_del.false)
