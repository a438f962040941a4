-- A list with separators, its first element and then one element at a time: for a loop that lays them.
use Prim.Native.Nat.{◌+◌, ◌<◌, ◌≤◌, ℕ}
use lib.ListN.{drop, drop_of_length-le, get_or, length}
use lib.Seq.{drop-cons}
use mathlib.Core.List.{List, [], ◌++◌, ◌∷◌, append-nil, flat_map, map}
use mathlib.Core.Path.{◌≡◌, refl, sym}
use native.Mathlib.Numerals.{add-one}
use native.Mathlib.Omega.{arith}
use Rattle.definitions.specs.Bytes.{joined_by}

module _ {A : Type 0} (separator : ℕ) (write : A → List ℕ) where
  -- each element behind a separator
  unfoldable pub each_after : List A → List ℕ
  each_after = flat_map (λ x. separator ∷ write x)

  pub joined_none : (xs : List A) → length xs ≡ 0 → joined_by separator (map write xs) ≡ []
  unfolding joined_by
  joined_none [] h = refl
  joined_none (x ∷ xs) h = absurd (omega arith)

  joined_cons : (x : A) (xs : List A) → joined_by separator (map write (x ∷ xs)) ≡ write x ++ each_after xs
  unfolding joined_by each_after flat_map
  joined_cons x [] = sym (append-nil (write x))
  joined_cons x (y ∷ ys) = rw (joined_cons y ys)

  pub joined_first : (xs : List A) (d : A) → (length xs ≡ 0 → ⊥)
      → joined_by separator (map write xs) ≡ write (get_or xs 0 d) ++ each_after (drop 1 xs)
  joined_first [] d h = absurd (h refl)
  joined_first (x ∷ xs) d h = joined_cons x xs

  pub each_next : (xs : List A) (d : A) (i : ℕ) → i < length xs
      → each_after (drop i xs) ≡ separator ∷ write (get_or xs i d) ++ each_after (drop (i + 1) xs)
  unfolding each_after flat_map
  each_next xs d i h = rw (add-one, drop-cons xs i d)

  pub each_end : (xs : List A) (i : ℕ) → length xs ≤ i → each_after (drop i xs) ≡ []
  unfolding each_after flat_map
  each_end xs i h = rw (drop_of_length-le xs h)
