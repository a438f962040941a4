use Rattle.std.proofs.Common.{get_or, map, set, ◌≡◌, ℕ, ◌+◌, ◌-◌, ◌*◌, ◌<◌, ◌≤◌, length}
use Rattle.slices.proofs.clear.Given as goal

abbrev pub invariant-loop-value : goal.invariant-loop-value
invariant-loop-value g l = (k : ℕ) (d : g.row.T.Denot) → k < l.value-index → get_or l.value-items k d ≡ l.zero
