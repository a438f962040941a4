-- The first of the elements with the greatest value (`first_greatest`): it is one of them, which one it is, and a map that keeps values
-- keeps it.
use Prim.Native.Nat.{◌<◌, ◌≤◌, ℕ}
use borrow.Author.Tests.{le-leb, lt-leb}
use lib.Dec.{leb}
use mathlib.Core.Bool.{Bool, cond, false, true}
use mathlib.Core.List.Memᴰ
use mathlib.Core.List.{List, [], ◌∷◌, map}
use mathlib.Core.Option
use mathlib.Core.Option.{Option, none, some}
use mathlib.Core.Path.{◌∙◌, ◌≡◌, ap, refl, sym}
use Rattle.definitions.specs.Lists.{first_greatest, greater_by}
use Rattle.laws.proofs.Every.{Every, IfThere, Pairwise, alone, before_all, every_member}
use Rattle.laws.proofs.Members.{◌∈◌, cons_cases}
use Rattle.laws.proofs.Tests.{not_none, some_same}

module _ {A : Type 0} (value : A → ℕ) where
  -- it is one of the elements
  pub greatest_found : (l : List A) {a : A} → first_greatest value l ≡ some a → a ∈ l
  unfolding first_greatest greater_by
  greatest_found [] h = not_none h
  greatest_found (x ∷ l) {a} h = go (first_greatest value l) refl h (λ h'. greatest_found l h')
    where
      pick : (y : A) (b : Bool) → cond b x y ≡ a → (y ≡ a → a ∈ l) → a ∈ x ∷ l
      pick y true q below = Memᴰ.head (sym q)
      pick y false q below = Memᴰ.tail (below q)

      go : (o : Option A) → first_greatest value l ≡ o → some (greater_by value x o) ≡ some a
          → (first_greatest value l ≡ some a → a ∈ l) → a ∈ x ∷ l
      go none e k below = Memᴰ.head (sym (some_same k))
      go (some y) e k below =
          pick y (leb (value y) (value x)) (some_same k) (λ q. below (e ∙ ap {B = Option A} some q))

  -- there is none only where there is no element
  pub greatest_none : (l : List A) → first_greatest value l ≡ none → l ≡ []
  unfolding first_greatest
  greatest_none [] h = refl
  greatest_none (x ∷ l) h = not_none (sym h)

  pub every_greatest : {P : A → Type 0} (l : List A) → Every P l → IfThere P (first_greatest value l)
  every_greatest {P} l h = go (first_greatest value l) refl
    where
      go : (o : Option A) → first_greatest value l ≡ o → IfThere P o
      go none e = tt
      go (some a) e = every_member (greatest_found l e) h

  -- it is the element that has more than each before it, and no less than each behind it
  pub greatest_is : {R : A → A → Type 0} {l : List A} {a : A} → Pairwise R l → a ∈ l → ((b : A) → b ∈ l → R b a → value b < value a)
      → ((b : A) → b ∈ l → R a b → value b ≤ value a) → first_greatest value l ≡ some a
  unfolding first_greatest greater_by
  greatest_is {R = R} {a = a} alone m less most = elim m [ ]
  greatest_is {R} {a = a} (before_all {x = x} {xs = l} h hs) m less most =
      cons_cases m (λ q. here q (first_greatest value l) refl)
      (λ n. later n (greatest_is hs n (λ b k. less b (Memᴰ.tail k)) (λ b k. most b (Memᴰ.tail k))))
    where
      here : a ≡ x → (o : Option A) → first_greatest value l ≡ o → some (greater_by value x o) ≡ some a
      here q none e = ap {B = Option A} some (sym q)
      here q (some y) e =
          let n = greatest_found l e in
          let k : value y ≤ value x = rw q at (most y (Memᴰ.tail n) (rw (← q) at (every_member n h))) in
          rw (le-leb (value y) (value x) k) (ap {B = Option A} some (sym q))

      later : a ∈ l → first_greatest value l ≡ some a → some (greater_by value x (first_greatest value l)) ≡ some a
      later n e = rw (e, lt-leb (value a) (value x) (less x (Memᴰ.head refl) (every_member n h)))

-- a map that keeps values keeps the greatest
pub greatest_map : {A B : Type 0} (f : A → B) (value : B → ℕ) (l : List A)
    → first_greatest value (map f l) ≡ Option.map f (first_greatest (λ a. value (f a)) l)
unfolding first_greatest greater_by
greatest_map f value [] = refl
greatest_map {A} {B} f value (x ∷ l) =
    ap (λ (o : Option B). some (greater_by value (f x) o)) (greatest_map f value l) ∙ go (first_greatest (λ a. value (f a)) l)
  where
    go : (o : Option A) → some (greater_by value (f x) (Option.map f o)) ≡ Option.map f (some (greater_by (λ a. value (f a)) x o))
    go none = refl
    go (some y) = pick (leb (value (f y)) (value (f x)))
      where
        pick : (b : Bool) → some (cond b (f x) (f y)) ≡ Option.map f (some (cond b x y))
        pick true = refl
        pick false = refl
