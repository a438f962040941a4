use Rattle.definitions.specs.DepthWindows.{depth_windows}
use Rattle.site_groups.proofs.Refusals.{err_is}
use Rattle.depth_windows.proofs.Whole.{depth_answered}
use Rattle.depth_windows.proofs.depth_windows.Goals as goal

pub returns-in_err-run : goal.returns-in_err-run
unfolding depth_windows
returns-in_err-run c = rw (err_is _ _ c.from_residual.ensures.1) (depth_answered _ _ c.in_err-run.ensures)

pub returns : goal.returns
unfolding depth_windows
returns c = depth_answered _ _ c.in_ok-run.ensures
