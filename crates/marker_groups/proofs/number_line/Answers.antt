-- A number of the line, in its range or not.
use native.Mathlib.Omega.{arith}
use Rattle.marker_groups.proofs.Values.{in_range_lem, in_unread, too_high, too_low}
use Rattle.marker_groups.proofs.number_line.Goals as goal

pub returns-in_err-n : goal.returns-in_err-n
returns-in_err-n c = rw c.from_residual.ensures (in_unread _ _ _ _ _ c.in_err-n.ensures)

pub returns-then-n-low : goal.returns-then-n-low
returns-then-n-low c = too_low _ _ _ _ _ _ _ c.in_ok-n.ensures c.if-n-low.true

pub returns-then-high-n : goal.returns-then-high-n
returns-then-high-n c = too_high _ _ _ _ _ _ _ c.in_ok-n.ensures (omega (arith, c.if-n-low.false)) c.if-high-n.true

pub returns : goal.returns
returns c = in_range_lem _ _ _ _ _ _ _ c.in_ok-n.ensures (omega (arith, c.if-n-low.false)) (omega (arith, c.if-high-n.false))
