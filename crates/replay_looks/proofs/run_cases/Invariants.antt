-- Each case ends further on than it begins.
use Rattle.std.proofs.Common.{◌-◌, length}
use Rattle.replay_looks.proofs.run_cases.Given as goal

abbrev pub decreases-loop-at : goal.decreases-loop-at
decreases-loop-at g l = length l.input - l.at
