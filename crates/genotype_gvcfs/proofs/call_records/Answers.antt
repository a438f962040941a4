-- The records are measured, and then the list is written.
use borrow.Author.Rules.{rules}
use native.Mathlib.Omega.{arith}
use Rattle.std.proofs.lemmas.Result.{err_from_is_err_and}
use Rattle.answers.proofs.Answers.{answered_refused}
use Rattle.genotype_gvcfs.proofs.WrittenCalled.{list_answered, list_refused, measurement, measuring, nothing_left}
use Rattle.genotype_gvcfs.proofs.call_records.Goals as goal

pub genotype_gvcf_records-requires : goal.genotype_gvcf_records-requires
genotype_gvcf_records-requires c = measuring c.requires _ (omega arith)

pub write_measured-requires : goal.write_measured-requires
write_measured-requires c = measurement c.requires _ (omega arith) _ _ _ c.genotype_gvcf_records.auto.rows (omega (arith, c.well_formed.1.1.1.0))
    c.in_ok-measured.ensures

pub returns-in_err-measured : goal.returns-in_err-measured
returns-in_err-measured c = let p = err_from_is_err_and c.from_residual.result c.from_residual.ensures.1 in
    rw (p.1, p.2) (answered_refused (list_refused c.requires _ (omega arith) _ _ _ _ _ c.in_err-measured.ensures)
    (nothing_left c.genotype_gvcf_records.new.out _ c.genotype_gvcf_records.auto.out))

pub returns : goal.returns
returns c = list_answered c.requires _ (omega arith) _ _ _ _ _ _ _ c.genotype_gvcf_records.auto.rows (omega (arith, c.well_formed.1.1.1.0))
    c.in_ok-measured.ensures (nothing_left c.genotype_gvcf_records.new.out _ c.genotype_gvcf_records.auto.out) c.write_measured.ensures
