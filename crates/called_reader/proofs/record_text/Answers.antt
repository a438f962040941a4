-- Sample by sample, each behind those in the table.
use lib.Seq.{lt-length-set}
use native.Mathlib.Omega.{arith}
use Rattle.called_reader.proofs.Samples.{reading_start, sample_next, sample_wrong, samples_end}
use Rattle.called_reader.specs.CalledGroups.{HeadRead, SampleRead, TextRead}
use Rattle.definitions.specs.Bytes.{comma}
use Rattle.called_reader.proofs.record_text.Goals as goal

pub returns-in_err-head : goal.returns-in_err-head
unfolding HeadRead TextRead
returns-in_err-head c = rw c.from_residual.ensures (c.in_err-head.ensures _)

pub loop-i-init : goal.loop-i-init
unfolding HeadRead
loop-i-init c = reading_start _ _ _ _ _ c.in_ok-head.ensures

pub shape_of-pls-in_err-values : goal.shape_of-pls-in_err-values
shape_of-pls-in_err-values c = c.loop-i.invariant.long

pub returns-in_err-values : goal.returns-in_err-values
unfolding HeadRead TextRead
returns-in_err-values c = rw c.from_residual-in_err-values.ensures (sample_wrong _ _ _ _ _ _ _ _ _ c.loop-i.invariant c.loop-i-test.true
    c.in_ok-head.ensures c.in_err-values.ensures)

pub overflow_mul-pls : goal.overflow_mul-pls
overflow_mul-pls c = omega (arith, c.well_formed, c.requires, c.loop-i.invariant.long, c.loop-i-test.true)

pub offset_bounds-pls-i : goal.offset_bounds-pls-i
offset_bounds-pls-i c = omega (arith, c.well_formed, c.requires, c.loop-i.invariant.long, c.loop-i-test.true)

pub bounds-pls-i : goal.bounds-pls-i
bounds-pls-i c = omega (arith, c.well_formed, c.requires, c.loop-i.invariant.long, c.loop-i-test.true)

pub overflow_mul-pls-in-loop-i : goal.overflow_mul-pls-in-loop-i
overflow_mul-pls-in-loop-i c = omega (arith, c.well_formed, c.requires, c.loop-i.invariant.long, c.loop-i-test.true)

pub overflow_add-pls : goal.overflow_add-pls
overflow_add-pls c = omega (arith, c.well_formed, c.requires, c.loop-i.invariant.long, c.loop-i-test.true)

pub offset_bounds-pls-i-in-loop-i : goal.offset_bounds-pls-i-in-loop-i
offset_bounds-pls-i-in-loop-i c = omega (arith, c.well_formed, c.requires, c.loop-i.invariant.long, c.loop-i-test.true)

pub bounds-pls-i-in-loop-i : goal.bounds-pls-i-in-loop-i
bounds-pls-i-in-loop-i c = lt-length-set c.loop-i.pls _ _ (omega (arith, c.well_formed, c.requires, c.loop-i.invariant.long, c.loop-i-test.true))

pub overflow_step-i : goal.overflow_step-i
overflow_step-i c = omega (arith, c.loop-i-test.true, c.ranges.samples)

pub loop-i-smaller : goal.loop-i-smaller
loop-i-smaller c = omega (arith, c.loop-i-test.true)

pub loop-i-preserved : goal.loop-i-preserved
unfolding SampleRead comma
loop-i-preserved c = sample_next _ _ _ _ _ _ _ _ _ c.loop-i.invariant c.loop-i-test.true
    _ c.in_ok-values.ensures c.requires _
    (rw c.part.ensures at c.count_fields-alts.ensures) _ c.counts_fit-fit.ensures

pub shape_of-pls : goal.shape_of-pls
shape_of-pls c = c.loop-i.invariant.long

pub returns : goal.returns
unfolding HeadRead TextRead
returns c = samples_end _ _ _ _ _ _ _ _ _ c.loop-i.invariant c.in_ok-head.ensures c.loop-i-test.false
