use native.Mathlib.Omega.{arith}
use Rattle.definitions.specs.DepthWindows.{overlap}
use Rattle.window_counts.proofs.overlap.Goals as goal

pub returns : goal.returns
unfolding overlap
returns c = omega arith
