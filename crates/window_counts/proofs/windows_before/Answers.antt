use Prim.Native.Nat.{◌+◌, ◌-◌}
use borrow.Author.Tests.{le-ltb, lt-ltb}
use native.Mathlib.Nat.{div-le_self}
use native.Mathlib.Numerals.{add-one}
use native.Mathlib.Omega.{arith}
use Rattle.window_counts.specs.Counts.{windows_before}
use Rattle.window_counts.proofs.windows_before.Goals as goal

pub returns-then-pos-past : goal.returns-then-pos-past
unfolding windows_before
returns-then-pos-past c = let args = c.args in
    rw (lt-ltb args.pos (args.windows.first.0 + args.windows.size) (omega arith))

pub overflow_add-result : goal.overflow_add-result
overflow_add-result c = omega (arith, div-le_self (c.args.pos - (c.get.result + c.args.windows.size)) c.args.windows.step)

pub returns : goal.returns
unfolding windows_before
returns c = rw (c.get.ensures, le-ltb c.args.pos (c.args.windows.first.0 + c.args.windows.size) (omega arith), add-one)
