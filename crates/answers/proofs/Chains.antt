-- What `all` and `any` of an iterator answer, as the definitions say it of a list.
use Prim.Native.Nat.{suc, zero, ◌<◌, ◌≤◌, ℕ}
use lib.ListN.{get_or, length}
use mathlib.Core.Bool.{Bool, ◌&&◌, ◌||◌, false, true}
use mathlib.Core.List.{List, [], ◌∷◌}
use mathlib.Core.Path.{◌≡◌, refl}
use native.Mathlib.Omega.{arith}
use Rattle.std.specs.Bool.{MatchBool}
use Rattle.std.specs.List.{AllWithin, HoldsAt}
use Rattle.definitions.specs.Lists.{all_of, any_of}

module _ {A : Type 0} (p : A → Bool) where
  abbrev pub Passes : A → Type 0
  Passes x = p x ≡ true

  abbrev pub Fails : A → Type 0
  Fails x = p x ≡ false

  all_pass : (xs : List A) → ((k : ℕ) (d : A) → k < length xs → p (get_or xs k d) ≡ true) → true ≡ all_of p xs
  unfolding all_of
  all_pass [] h = refl
  all_pass (x ∷ xs) h = rw (h 0 x (omega arith)) (all_pass xs (λ k d less. h (suc k) d (omega (arith, less))))

  one_fails : (xs : List A) (k : ℕ) → k < length xs → ((d : A) → p (get_or xs k d) ≡ false) → false ≡ all_of p xs
  unfolding all_of
  one_fails [] k less h = absurd (omega (arith, less))
  one_fails (x ∷ xs) zero less h = rw (h x)
  one_fails (x ∷ xs) (suc k) less h = go (p x) (one_fails xs k (omega (arith, less)) (λ d. h d))
    where
      go : (b : Bool) → false ≡ all_of p xs → false ≡ (b && all_of p xs)
      go true rest = rest
      go false rest = refl

  pub all_answer : (xs : List A) (r : Bool) → MatchBool r (AllWithin Passes xs 0 (length xs)) ((k : ℕ) × (k < length xs) × HoldsAt Fails xs k) → r ≡ all_of p xs
  all_answer xs true h = all_pass xs (λ k d less. h k d (omega arith) less)
  all_answer xs false h = one_fails xs h.0 h.1 h.2

  all_fail : (xs : List A) → ((k : ℕ) (d : A) → k < length xs → p (get_or xs k d) ≡ false) → false ≡ any_of p xs
  unfolding any_of
  all_fail [] h = refl
  all_fail (x ∷ xs) h = rw (h 0 x (omega arith)) (all_fail xs (λ k d less. h (suc k) d (omega (arith, less))))

  one_passes : (xs : List A) (k : ℕ) → k < length xs → ((d : A) → p (get_or xs k d) ≡ true) → true ≡ any_of p xs
  unfolding any_of
  one_passes [] k less h = absurd (omega (arith, less))
  one_passes (x ∷ xs) zero less h = rw (h x)
  one_passes (x ∷ xs) (suc k) less h = go (p x) (one_passes xs k (omega (arith, less)) (λ d. h d))
    where
      go : (b : Bool) → true ≡ any_of p xs → true ≡ (b || any_of p xs)
      go true rest = refl
      go false rest = rest

  pub any_answer : (xs : List A) (r : Bool) → MatchBool r ((k : ℕ) × (k < length xs) × HoldsAt Passes xs k) (AllWithin Fails xs 0 (length xs)) → r ≡ any_of p xs
  any_answer xs true h = one_passes xs h.0 h.1 h.2
  any_answer xs false h = all_fail xs (λ k d less. h k d (omega arith) less)
