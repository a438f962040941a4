-- Clip and reference are in order or refused with 9; then the first segments get rows.
use borrow.Author.Rules.{rules}
use mathlib.Core.Path.{◌∙◌, sym}
use Rattle.combine_gvcfs.proofs.Loading.{clip_refused, optional_in_order, reference_refused, segments_there, still_held, texts_loaded}
use Rattle.combine_gvcfs.specs.Combined.{ReadTo}
use Rattle.definitions.specs.ClipAndReference.{segment_of, span_of}
use Rattle.combine_gvcfs.proofs.read_clip_and_reference.Goals as goal

pub returns-then-not-clip_in_order : goal.returns-then-not-clip_in_order
unfolding ReadTo
returns-then-not-clip_in_order c = clip_refused c.requires (sym c.clip_in_order.ensures ∙ c.if-not-clip_in_order.true)

pub returns-then-not-reference_in_order : goal.returns-then-not-reference_in_order
unfolding ReadTo
returns-then-not-reference_in_order c = let spans = optional_in_order span_of _ _ (sym c.clip_in_order.ensures ∙ c.if-not-clip_in_order.false) in
    reference_refused c.requires spans (sym c.reference_in_order.ensures ∙ c.if-not-reference_in_order.true)

pub returns : goal.returns
unfolding ReadTo
returns c = let spans = optional_in_order span_of _ _ (sym c.clip_in_order.ensures ∙ c.if-not-clip_in_order.false) in
    let segments = optional_in_order segment_of _ _ (sym c.reference_in_order.ensures ∙ c.if-not-reference_in_order.false) in
    texts_loaded (still_held c.requires c.index_reference.ensures) spans segments (segments_there c.requires c.index_reference.ensures) c.requires.for_rows
