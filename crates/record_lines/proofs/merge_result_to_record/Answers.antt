-- The lines of the head, REF as capitals, and then the lines of the samples.
use borrow.Author.Rules.{rules}
use Rattle.kv_write.proofs.Laying.{laid_append}
use Rattle.record_lines.proofs.WholeRecords.{record_alts_fit, record_head_laid, record_place_fits, record_ref_fits, record_samples_fit}
use Rattle.record_lines.specs.Records.{record_bytes}
use Rattle.record_lines.proofs.merge_result_to_record.Goals as goal

pub put_place-behind_place-requires : goal.put_place-behind_place-requires
put_place-behind_place-requires c = let loc = c.new-loc.ensures in
    rw (loc.0, loc.1) (record_place_fits c.requires)

pub put_ref_line-behind_ref-requires : goal.put_ref_line-behind_ref-requires
put_ref_line-behind_ref-requires c = let loc = c.new-loc.ensures in
    record_ref_fits c.requires (rw (loc.0, loc.1) at c.put_place-behind_place.ensures)

pub put_line-next-requires : goal.put_line-next-requires
put_line-next-requires c = let loc = c.new-loc.ensures in
    record_alts_fit c.requires (rw (loc.0, loc.1) at c.put_place-behind_place.ensures) c.put_ref_line-behind_ref.ensures

pub merge_genotypes-requires : goal.merge_genotypes-requires
merge_genotypes-requires c = let loc = c.new-loc.ensures in
    record_samples_fit c.requires (rw (loc.0, loc.1) at c.put_place-behind_place.ensures) c.put_ref_line-behind_ref.ensures
    c.put_line-next.ensures

pub returns : goal.returns
unfolding record_bytes
returns c = let loc = c.new-loc.ensures in
    laid_append
    (record_head_laid c.requires (rw (loc.0, loc.1) at c.put_place-behind_place.ensures) c.put_ref_line-behind_ref.ensures
    c.put_line-next.ensures)
    c.merge_genotypes.ensures
