-- What a loop over a list knows: a fold and a test of every element, of what is left.
-- Assumes nothing.
use Prim.Native.Nat.{◌+◌, ◌<◌, ◌≤◌, ℕ}
use borrow.Author.Tests.{not-false, not-true}
use lib.ListN.{drop, drop_of_length-le, get_or, length}
use lib.Seq.{drop-cons}
use mathlib.Core.Bool.{Bool, false, not, true}
use mathlib.Core.List.{List, foldl}
use mathlib.Core.Path.{◌∙◌, ◌≡◌, sym}
use native.Mathlib.Numerals.{add-one}
use Rattle.definitions.specs.Lists.{all_of, any_of}

-- a test of what a function answers, negated
pub passed : {r b : Bool} → r ≡ b → not r ≡ false → b ≡ true
passed e h = sym e ∙ not-false _ h

pub failed : {r b : Bool} → r ≡ b → not r ≡ true → b ≡ false
failed e h = sym e ∙ not-true _ h

module _ {A B : Type 0} (f : B → A → B) (xs : List A) (d : A) (i : ℕ) (b : B) where
  pub fold_next : i < length xs → foldl f b (drop i xs) ≡ foldl f (f b (get_or xs i d)) (drop (i + 1) xs)
  fold_next h = rw (add-one, drop-cons xs i d)

  pub fold_end : length xs ≤ i → foldl f b (drop i xs) ≡ b
  fold_end h = rw (drop_of_length-le xs h)

module _ {A : Type 0} (p : A → Bool) (xs : List A) (d : A) (i : ℕ) where
  pub all_failed : i < length xs → p (get_or xs i d) ≡ false → all_of p (drop i xs) ≡ false
  unfolding all_of
  all_failed h t = rw (drop-cons xs i d) (simp t)

  pub all_next : i < length xs → p (get_or xs i d) ≡ true → all_of p (drop i xs) ≡ all_of p (drop (i + 1) xs)
  unfolding all_of
  all_next h t = rw (drop-cons xs i d) (simp (t, add-one))

  pub any_found : i < length xs → p (get_or xs i d) ≡ true → any_of p (drop i xs) ≡ true
  unfolding any_of
  any_found h t = rw (drop-cons xs i d) (simp t)

  pub any_next : i < length xs → p (get_or xs i d) ≡ false → any_of p (drop i xs) ≡ any_of p (drop (i + 1) xs)
  unfolding any_of
  any_next h t = rw (drop-cons xs i d) (simp (t, add-one))

module _ {A : Type 0} (p : A → Bool) (xs : List A) (i : ℕ) where
  pub all_end : length xs ≤ i → all_of p (drop i xs) ≡ true
  unfolding all_of
  all_end h = rw (drop_of_length-le xs h)

  pub any_end : length xs ≤ i → any_of p (drop i xs) ≡ false
  unfolding any_of
  any_end h = rw (drop_of_length-le xs h)
