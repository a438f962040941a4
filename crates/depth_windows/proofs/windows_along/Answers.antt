use mathlib.Core.Path.{refl, sym}
use Rattle.list_walk.specs.Walk.{HeaderRead}
use Rattle.site_groups.proofs.Refusals.{err_is}
use Rattle.depth_windows.proofs.Whole.{all_behind, all_refused, given_refused, given_same, too_long_lem}
use Rattle.depth_windows.proofs.windows_along.Goals as goal

pub returns-then-list-gt16777216 : goal.returns-then-list-gt16777216
returns-then-list-gt16777216 c = given_refused (too_long_lem _ _ _ _ c.if-list-gt16777216.true) refl

pub windows_behind-requires : goal.windows_behind-requires
unfolding HeaderRead
windows_behind-requires c = c.in_ok-header.ensures.few

pub returns-in_err-header : goal.returns-in_err-header
unfolding HeaderRead
returns-in_err-header c =
    rw (err_is _ _ c.from_residual.ensures.1)
    (given_refused (all_refused _ _ _ _ c.if-list-gt16777216.false _ c.in_err-header.ensures.value) refl)

pub returns : goal.returns
unfolding HeaderRead
returns c = given_same (sym (all_behind _ _ _ _ c.if-list-gt16777216.false c.in_ok-header.ensures)) c.windows_behind.ensures
