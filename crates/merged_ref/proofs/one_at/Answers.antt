-- One byte, if the text goes so far.
use Prim.Native.Nat.{◌+◌, ◌-◌}
use lib.ListN.{drop_of_length-le}
use mathlib.Core.Path.{◌≡◌}
use native.Mathlib.Omega.{arith}
use Rattle.merged_ref.proofs.one_at.Goals as goal

pub returns-then-i-text : goal.returns-then-i-text
returns-then-i-text c = let e : c.args.i + 1 - c.args.i ≡ 1 = omega arith in rw e

pub returns : goal.returns
returns c = rw (drop_of_length-le _ c.if-i-text.false)
