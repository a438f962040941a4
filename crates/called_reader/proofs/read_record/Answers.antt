-- The lines, then the checks.
use Rattle.site_groups.proofs.Refusals.{err_is, none_is}
use Rattle.called_reader.proofs.RecordChecks.{record_found, record_refused}
use Rattle.called_reader.specs.CalledGroups.{RecordFound, TextRead}
use Rattle.called_reader.proofs.read_record.Goals as goal

pub returns-in_err-head : goal.returns-in_err-head
unfolding RecordFound TextRead
returns-in_err-head c =
    let t = rw c.in_err-head.ensures.ok_part at c.record_text.ensures in
    rw (none_is _ _ _ _ c.from_residual.ensures.1 c.in_err-head.ensures.value c.in_err-head.ensures.ok_part)
    (λ records before more previous. t records before)

pub returns-in_err-count : goal.returns-in_err-count
unfolding TextRead
returns-in_err-count c = let t = rw c.in_ok-head.ensures.ok_part at c.record_text.ensures in
    rw (err_is _ _ c.from_residual-in_err-count.ensures.1) (record_refused t _ _ c.in_err-count.ensures)

pub returns : goal.returns
unfolding TextRead
returns c = let t = rw c.in_ok-head.ensures.ok_part at c.record_text.ensures in record_found t _ _ c.in_ok-count.ensures
