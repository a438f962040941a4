-- The first greatest of finite values is finite and none of them is above it, so none of them less the greatest is above 0.
-- Assumes nothing.
use lib.Dec.{T}
use lib.Ieee.{Float, binary64, eq, fin, inf, le, lt, nan, neg, sub}
use lib.Ieee.Scale.{finite}
use mathlib.Core.Bool.{Bool, cond, false, not, true}
use mathlib.Core.List.{List, [], ◌∷◌, foldl}
use mathlib.Core.Path.{◌≡◌, refl}
use Rattle.definitions.specs.AlleleSubset.{greater, greatest, in_range, less_greatest, max_size}
use Rattle.laws.proofs.Every.{Every, also, every_both, every_map, every_of_map, nothing}
use Rattle.laws.proofs.Tests.{clash}
use Rattle.likelihoods.proofs.Order.{le_of_lt_float, le_of_not_lt, le_refl_finite, le_trans_finite, low_difference}
use Rattle.likelihoods.specs.Written.{not_above}

record Bounds (x y g : Float) : Type 0 where
  is_finite : T (finite g)
  left : T (le x g)
  right : T (le y g)

bounds : (x y : Float) → T (finite x) → T (finite y) → Bounds x y (greater x y)
unfolding greater
bounds x y fx fy = go (lt x y) (le_of_lt_float x y) (le_of_not_lt x y fx fy)
  where
    go : (b : Bool) → (T b → T (le x y)) → (T (not b) → T (le y x)) → Bounds x y (cond b y x)
    go true h k = record { is_finite = fy; left = h tt; right = le_refl_finite y fy }
    go false h k = record { is_finite = fx; left = le_refl_finite x fx; right = k tt }

record Above (x : Float) (xs : List Float) (g : Float) : Type 0 where
  is_finite : T (finite g)
  first : T (le x g)
  rest : Every (λ v. T (le v g)) xs

above : (x : Float) (xs : List Float) → T (finite x) → Every (λ v. T (finite v)) xs → Above x xs (foldl greater x xs)
above x [] fx nothing = record { is_finite = fx; first = le_refl_finite x fx; rest = nothing }
above x (y ∷ ys) fx (also fy fs) =
    let b = bounds x y fx fy in
    let a = above (greater x y) ys b.is_finite fs in
    let g = foldl greater (greater x y) ys in
    record {
      is_finite = a.is_finite;
      first = le_trans_finite x (greater x y) g fx b.is_finite a.is_finite b.left a.first;
      rest = also (le_trans_finite y (greater x y) g fy b.is_finite a.is_finite b.right a.first) a.rest;
    }

less_not_above : (xs : List Float) → Every (λ v. T (finite v)) xs → Every (λ v. T (not_above v)) (less_greatest xs)
unfolding less_greatest greatest
less_not_above [] nothing = nothing
less_not_above (x ∷ xs) (also fx fs) =
    let a = above x xs fx fs in
    let g = foldl greater x xs in
    every_of_map (λ v. sub binary64 v g)
    (every_map (λ v p. low_difference v g p.0 a.is_finite p.1) (every_both (also fx fs) (also a.first a.rest)))

in_range_finite : (x : Float) → in_range x ≡ true → T (finite x)
unfolding in_range max_size le lt eq neg
in_range_finite nan e = clash e refl
in_range_finite (inf true) e = clash e refl
in_range_finite (inf false) e = clash e refl
in_range_finite (fin s m e) h = tt

pub none_above_lem : (xs : List Float) → Every (λ x. in_range x ≡ true) xs → Every (λ x. T (not_above x)) (less_greatest xs)
none_above_lem xs h = less_not_above xs (every_map in_range_finite h)
