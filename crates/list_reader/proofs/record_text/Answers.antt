-- Sample by sample, each behind those in the table.
use native.Mathlib.Omega.{arith}
use Rattle.definitions.specs.Bytes.{comma}
use Rattle.list_reader.proofs.Samples.{reading_start, sample_next, sample_wrong, samples_end}
use Rattle.list_reader.specs.RecordGroups.{HeadRead, SampleRead, TextRead}
use Rattle.list_reader.proofs.record_text.Goals as goal

pub returns-in_err-head : goal.returns-in_err-head
unfolding HeadRead TextRead
returns-in_err-head c = rw c.from_residual.ensures (c.in_err-head.ensures _)

pub loop-i-init : goal.loop-i-init
unfolding HeadRead
loop-i-init c = reading_start _ _ _ _ _ c.in_ok-head.ensures

pub shape_of-rows-in_err-values : goal.shape_of-rows-in_err-values
shape_of-rows-in_err-values c = c.loop-i.invariant.long

pub returns-in_err-values : goal.returns-in_err-values
unfolding HeadRead TextRead comma
returns-in_err-values c = rw c.from_residual-in_err-values.ensures (sample_wrong _ _ _ _ _ _ _ _ _ _ c.loop-i.invariant c.loop-i-test.true _
    (rw c.part.ensures at c.count_fields-alts.ensures)
    c.in_ok-head.ensures c.in_err-values.ensures)

pub put_site-requires : goal.put_site-requires
put_site-requires c = omega (arith, c.requires, c.loop-i.invariant.long, c.loop-i-test.true)

pub overflow_step-i : goal.overflow_step-i
overflow_step-i c = omega (arith, c.loop-i-test.true, c.ranges.samples)

pub loop-i-preserved : goal.loop-i-preserved
unfolding SampleRead comma
loop-i-preserved c = sample_next _ _ _ _ _ _ _ _ _ _ c.loop-i.invariant c.loop-i-test.true _
    (rw c.part.ensures at c.count_fields-alts.ensures)
    _ c.in_ok-values.ensures c.requires
    (record { sample = _; contig = _; start = _; end = _; next = 0 }) _ c.put_site.auto.rows c.put_site.ensures _ _
    c.some_pl-has_pl.ensures c.counts_fit-fit.ensures

pub returns : goal.returns
unfolding HeadRead TextRead
returns c = samples_end _ _ _ _ _ _ _ _ _ _ c.loop-i.invariant c.in_ok-head.ensures c.loop-i-test.false
