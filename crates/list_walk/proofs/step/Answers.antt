-- By whether a group must be there.
use Rattle.definitions.specs.Answers.{scratch_after}
use Rattle.list_reader.specs.RecordGroups.{RecordRead}
use Rattle.list_walk.proofs.Steps.{step_end, step_past, step_record, step_refused}
use Rattle.list_walk.specs.Walk.{SteppedFrom}
use Rattle.site_groups.proofs.Refusals.{err_is}
use mathlib.Core.Path.{refl}
use Rattle.list_walk.proofs.step.Goals as goal

pub returns-then-next-list : goal.returns-then-next-list
unfolding SteppedFrom scratch_after
returns-then-next-list c = step_past _ _ _ c.if-header-read.true c.if-next-list.true c.clear.ensures

pub returns-then-header-read : goal.returns-then-header-read
unfolding SteppedFrom
returns-then-header-read c = step_end _ _ _ c.if-header-read.true c.if-next-list.false refl

pub returns-in_err-place : goal.returns-in_err-place
unfolding SteppedFrom RecordRead
returns-in_err-place c = rw (err_is _ _ c.from_residual.ensures.1) (step_refused _ _ _ c.if-header-read.false _ c.in_err-place.ensures)

pub returns : goal.returns
unfolding SteppedFrom RecordRead
returns c = step_record _ _ _ c.if-header-read.false _ c.in_ok-place.ensures c.record_end.ensures
