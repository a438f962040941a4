-- A block by the number of ALTs and the length of REF.
use borrow.Author.Rules.{rules}
use mathlib.Core.Path.{◌∙◌, sym}
use Rattle.coalescing.proofs.StepLaws.{record_step, within_limit}
use Rattle.contig_walk.proofs.LaidRecords.{by_numbers, other_record, record_fits}
use Rattle.contig_walk.specs.Laying.{laid_record}
use Rattle.contig_walk.proofs.lay_record.Goals as goal

pub lay_block-requires : goal.lay_block-requires
lay_block-requires c = let block = by_numbers c.requires.0 ∙ sym c.is_homref_nonref_only.ensures ∙ c.if-is_homref_nonref_only.true in
    (c.requires.0, block, c.requires.1)

pub returns-then-is_homref_nonref_only : goal.returns-then-is_homref_nonref_only
returns-then-is_homref_nonref_only c = λ ready way.
    let block = by_numbers ready ∙ sym c.is_homref_nonref_only.ensures ∙ c.if-is_homref_nonref_only.true in
    c.lay_block.ensures ready block way

pub lay_behind-requires : goal.lay_behind-requires
lay_behind-requires c = record_fits c.requires.0 _ (within_limit _ _ _ _ _ c.lay_pending-before.ensures.step)

pub returns : goal.returns
returns c = λ ready way.
    let other = by_numbers ready ∙ sym c.is_homref_nonref_only.ensures ∙ c.if-is_homref_nonref_only.false in
    record_step _ _ _ way.begun.d₀ way.begun.bytes way.begun.records _
    (laid_record ready) (other_record ready other) _ way.waiting way.holds
    _ _ _ way.begun.progress _ _ c.lay_pending-before.ensures.step c.lay_behind.ensures.step
    _ _ c.lay_pending-before.ensures.laid c.lay_behind.ensures.laid
