-- The greatest of values by their first, and values less it.
-- Assumes nothing.
use Prim.Native.Nat.{◌-◌, ◌<◌, suc}
use lib.Ieee.{Float, binary64, nan, sub}
use lib.ListN.{drop, get_or, length, take}
use lib.Seq.{take_all}
use mathlib.Core.List.{List, [], ◌∷◌, foldl, map}
use mathlib.Core.Path.{◌≡◌, ap, refl, sym}
use native.Mathlib.Nat.{not-suc-le-zero}
use native.Mathlib.Omega.{arith}
use Rattle.definitions.specs.AlleleSubset.{greater, greatest, less_greatest}

-- all but the first, as a loop over `&values[1..]` has them
abbrev pub others : List Float → List Float
others xs = take (length xs - 1) (drop 1 xs)

pub greatest_first : (xs : List Float) → 0 < length xs → greatest xs ≡ foldl greater (get_or xs 0 nan) (others xs)
unfolding greatest
greatest_first [] h = absurd (not-suc-le-zero h)
greatest_first (x ∷ xs) h = ap (λ (l : List Float). foldl greater x l) (sym (take_all (suc (length xs) - 1) xs (omega arith)))

pub less_each : (xs : List Float) → less_greatest xs ≡ map (λ x. sub binary64 x (greatest xs)) xs
unfolding less_greatest
less_each xs = refl

pub less_none : (xs : List Float) → length xs ≡ 0 → less_greatest xs ≡ []
unfolding less_greatest
less_none [] h = refl
less_none (x ∷ xs) h = absurd (omega arith)
