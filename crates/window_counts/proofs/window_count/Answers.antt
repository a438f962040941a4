use Prim.Native.Nat.{◌-◌}
use native.Mathlib.Nat.{div-le_self}
use native.Mathlib.Numerals.{add-one}
use native.Mathlib.Omega.{arith}
use Rattle.window_counts.proofs.window_count.Goals as goal

pub overflow_add-result : goal.overflow_add-result
overflow_add-result c = omega (arith, div-le_self (c.get.result - c.get-2.result) c.args.windows.step)

pub returns : goal.returns
returns c = rw (c.get.ensures, c.get-2.ensures, add-one)
