-- The least of some numbers and of two more.
use Prim.Native.Nat.{min, ℕ}
use mathlib.Core.List.{List, [], ◌∷◌, foldr}
use mathlib.Core.Path.{◌≡◌}
use native.Mathlib.Omega.{arith}

pub foldr_min_min : (a b : ℕ) (xs : List ℕ) → foldr min (min a b) xs ≡ min a (foldr min b xs)
foldr_min_min a b [] = omega arith
foldr_min_min a b (x ∷ xs) = let h = foldr_min_min a b xs in omega arith
