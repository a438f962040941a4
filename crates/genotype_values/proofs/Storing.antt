-- Values stored one at a time: what is left to store.
-- Assumes nothing.
use Prim.Native.Nat.{◌+◌, ◌<◌, ◌≤◌, ℕ}
use lib.ListN.{drop, drop_of_length-le, get_or, length, set}
use lib.Seq.{drop-cons, length-sets, sets}
use mathlib.Core.List.{List, map}
use mathlib.Core.Path.{◌∙◌, ◌≡◌, ap, sym}
use native.Mathlib.Numerals.{add-one}

-- `all` was to be stored over what stood there, and storing the rest from a place on comes to the same
pub record Unstored {B : Type 0} (before all values : List B) (place : ℕ) (rest : List B) : Type 0 where
  pub same : sets values place rest ≡ sets before 0 all

pub all_left : {B : Type 0} {before all rest : List B} → rest ≡ all → Unstored before all before 0 rest
all_left e = record { same = rw e }

pub unstored_length : {B : Type 0} {before all values rest : List B} {place : ℕ} → Unstored before all values place rest
    → length values ≡ length before
unstored_length {B} {before} {all} {values} {rest} {place} u =
    sym (length-sets values place rest) ∙ ap length u.same ∙ length-sets before 0 all

module _ {A B : Type 0} (f : A → B) (xs : List A) {before all values : List B} {i : ℕ} where
  pub next_stored : (d : A) {values' : List B} {x : B} → i < length xs → x ≡ f (get_or xs i d) → values' ≡ set values i x
      → Unstored before all values i (map f (drop i xs)) → Unstored before all values' (i + 1) (map f (drop (i + 1) xs))
  next_stored d h e s u = record { same = rw (s, e, add-one) (rw (drop-cons xs i d h) at u.same) }

  pub all_stored : length xs ≤ i → Unstored before all values i (map f (drop i xs)) → values ≡ sets before 0 all
  all_stored h u = rw (drop_of_length-le xs h) at u.same
