-- A table set to zero.
use lib.ListN.{length}
use mathlib.Core.List.{List, [], ◌∷◌}
use mathlib.Core.Path.{◌≡◌, ap, refl}
use native.Mathlib.Omega.{arith}
use Prim.Native.Nat.{ℕ}
use Rattle.definitions.specs.Answers.{scratch_after}

-- a cleared table has only its length
pub scratch_same : (l m : List ℕ) → length l ≡ length m → scratch_after l ≡ scratch_after m
unfolding scratch_after
scratch_same [] [] h = refl
scratch_same [] (y ∷ m) h = absurd (omega arith)
scratch_same (x ∷ l) [] h = absurd (omega arith)
scratch_same (x ∷ l) (y ∷ m) h = ap (λ (k : List ℕ). 0 ∷ k) (scratch_same l m (omega arith))
