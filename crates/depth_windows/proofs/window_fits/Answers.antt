use borrow.Author.Tests.{le-leb, lt-leb}
use Rattle.definitions.specs.DepthWindows.{window_fits}
use Rattle.depth_windows.proofs.window_fits.Reads as reads
use Rattle.depth_windows.proofs.window_fits.Lts as lts
use Rattle.depth_windows.proofs.window_fits.Goals as goal

pub returns-then-n-ge1 : goal.returns-then-n-ge1
unfolding window_fits
returns-then-n-ge1 c = rw (le-leb 1 (c.args.n) (c.if-n-ge1.true))

pub returns-else-n-ge1 : goal.returns-else-n-ge1
unfolding window_fits
returns-else-n-ge1 c = rw (lt-leb 1 (c.args.n) (c.if-n-ge1.false))
