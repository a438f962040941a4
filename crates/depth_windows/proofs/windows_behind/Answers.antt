use mathlib.Core.Path.{refl, sym}
use Rattle.site_groups.proofs.Refusals.{err_is}
use Rattle.depth_windows.proofs.Walking.{refused_along}
use Rattle.depth_windows.proofs.Whole.{given_refused, given_same, over_ready, records_behind, records_refused}
use Rattle.depth_windows.proofs.windows_behind.Goals as goal

pub windows_over-requires : goal.windows_over-requires
windows_over-requires c = over_ready _ c.requires c.in_ok-extent.ensures

pub returns-in_err-extent : goal.returns-in_err-extent
returns-in_err-extent c =
    rw (err_is _ _ c.from_residual.ensures.1)
    (given_refused (records_refused _ _ _ _ _ _ (refused_along _ _ _ c.in_err-extent.ensures)) refl)

pub returns : goal.returns
returns c =
    let ready = over_ready _ c.requires c.in_ok-extent.ensures in
    given_same (sym (records_behind _ _ _ _ _ ready.value)) (c.windows_over.ensures ready)
