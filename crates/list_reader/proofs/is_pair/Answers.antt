-- Test by test.
use Prim.Native.Nat.{suc, ℕ}
use borrow.Author.Tests.{le-leb, leb-true, lt-leb, lt-ltb, ltb-true}
use lib.Dec.{leb, ltb}
use mathlib.Core.Path.{◌≡◌}
use native.Mathlib.Omega.{arith}
use Rattle.laws.proofs.Tests.{bool_ext}
use Rattle.list_reader.proofs.is_pair.Goals as goal

below : (k n : ℕ) → leb k n ≡ ltb k (suc n)
below k n = bool_ext _ _ (λ e. let h = leb-true k n e in lt-ltb k (suc n) (omega arith)) (λ e. let h = ltb-true k (suc n) e in le-leb k n (omega arith))

pub returns-then-low-high : goal.returns-then-low-high
returns-then-low-high c = rw (le-leb _ _ c.if-low-high.true) (below c.args.high c.args.alts)

pub returns-else-low-high : goal.returns-else-low-high
returns-else-low-high c = rw (lt-leb _ _ c.if-low-high.false)
