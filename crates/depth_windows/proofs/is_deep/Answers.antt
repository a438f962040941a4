use Rattle.definitions.specs.DepthWindows.{is_deep}
use Rattle.depth_windows.proofs.is_deep.Goals as goal

pub returns-in-Some : goal.returns-in-Some
unfolding is_deep
returns-in-Some c = rw c.in-Some.is

pub returns-in-None : goal.returns-in-None
unfolding is_deep
returns-in-None c = rw c.in-None.is
