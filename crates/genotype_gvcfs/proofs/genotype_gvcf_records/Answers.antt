-- In each turn a record is read behind those before it and laid if it is called; the groups from the next on are left.
use borrow.Author.Rules.{rules}
use native.Mathlib.Omega.{arith}
use Rattle.std.proofs.lemmas.Result.{err_from_is_err_and}
use Rattle.genotype_gvcfs.proofs.Walking.{going_end, going_next, going_past, going_refused, going_start, lay_ready}
use Rattle.list_reader.specs.RecordGroups.{RecordRead}
use Rattle.genotype_gvcfs.proofs.genotype_gvcf_records.Goals as goal

pub loop-read-init : goal.loop-read-init
loop-read-init c = λ ready. going_start _ _ _ _ ready

pub record_at-requires : goal.record_at-requires
record_at-requires c = omega (arith, c.requires.few, c.requires.room)

pub returns-in_err-place : goal.returns-in_err-place
unfolding RecordRead
returns-in_err-place c = λ ready.
    let p = err_from_is_err_and c.from_residual.result c.from_residual.ensures.1 in
    rw (p.1, p.2) (going_refused _ _ _ _ ready (c.loop-read.invariant ready) c.loop-read-test.true _ c.in_err-place.ensures.value)

pub genotype_one_record-list-requires : goal.genotype_one_record-list-requires
unfolding RecordRead
genotype_one_record-list-requires c = lay_ready _ _ _ _ c.requires (c.loop-read.invariant c.requires) c.loop-read-test.true c.in_ok-place.ensures

pub loop-read-preserved : goal.loop-read-preserved
unfolding RecordRead
loop-read-preserved c = λ ready. going_next _ _ _ _ ready (c.loop-read.invariant ready) c.loop-read-test.true c.in_ok-place.ensures c.record_end.ensures
    c.genotype_one_record-list.ensures

pub returns-then-next-s : goal.returns-then-next-s
returns-then-next-s c = λ ready. going_past _ _ _ _ ready (c.loop-read.invariant ready) c.loop-read-test.false c.if-next-s.true

pub returns : goal.returns
returns c = λ ready. going_end _ _ _ _ ready (c.loop-read.invariant ready) c.loop-read-test.false (omega arith) c.if-next-s.false
