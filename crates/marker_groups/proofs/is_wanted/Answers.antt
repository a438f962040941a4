-- Letters and `*` may be wanted.
use mathlib.Core.Path.{sym}
use Rattle.marker_groups.proofs.Values.{unwanted_non_ref, unwanted_none, wanted_letters, wanted_span_del}
use Rattle.marker_groups.proofs.is_wanted.Goals as goal

pub returns-in-Some-Letters : goal.returns-in-Some-Letters
returns-in-Some-Letters c = sym (wanted_letters _ (rw c.in-Some-Letters.field-0-is at c.in-Some-Letters.ensures))

pub returns-in-Some-SpanDel : goal.returns-in-Some-SpanDel
returns-in-Some-SpanDel c = sym (wanted_span_del _ (rw c.in-Some-SpanDel.field-0-is at c.in-Some-SpanDel.ensures))

pub returns-in-Some-NonRef : goal.returns-in-Some-NonRef
returns-in-Some-NonRef c = sym (unwanted_non_ref _ (rw c.in-Some-NonRef.field-0-is at c.in-Some-NonRef.ensures))

pub returns-in-None : goal.returns-in-None
returns-in-None c = sym (unwanted_none _ c.in-None.ensures)
