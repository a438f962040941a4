-- Two functions that agree at each element, and how many elements a `filter_map` has.
use Prim.Native.Nat.{◌≤◌, suc}
use lib.ListN.{length}
use mathlib.Core.List.Memᴰ
use mathlib.Core.List.{List, [], ◌++◌, ◌∷◌, filter_map, flat_map}
use mathlib.Core.Option.{Option, Option-elim, none, some}
use mathlib.Core.Path.{◌≡◌, ap₂, refl}
use native.Mathlib.Omega.{arith}
use Rattle.laws.proofs.Members.{◌∈◌}

module _ {A B : Type 0} where
  pub flat_map_same : (f g : A → List B) (l : List A) → ((a : A) → a ∈ l → f a ≡ g a) → flat_map f l ≡ flat_map g l
  unfolding flat_map
  flat_map_same f g [] h = refl
  flat_map_same f g (x ∷ l) h =
      ap₂ (λ (s t : List B). s ++ t) (h x (Memᴰ.head refl)) (flat_map_same f g l (λ a m. h a (Memᴰ.tail m)))

  pub filter_map_same : (f g : A → Option B) (l : List A) → ((a : A) → a ∈ l → f a ≡ g a) → filter_map f l ≡ filter_map g l
  unfolding filter_map
  filter_map_same f g [] h = refl
  filter_map_same f g (x ∷ l) h =
      ap₂ (λ (o : Option B) (r : List B). Option-elim o r (λ b. b ∷ r)) (h x (Memᴰ.head refl))
      (filter_map_same f g l (λ a m. h a (Memᴰ.tail m)))

  pub filter_map_few : (f : A → Option B) (l : List A) → length (filter_map f l) ≤ length l
  unfolding filter_map
  filter_map_few f [] = omega arith
  filter_map_few f (x ∷ l) = go (f x) (filter_map_few f l)
    where
      go : (o : Option B) → length (filter_map f l) ≤ length l → length (Option-elim o (filter_map f l) (λ b. b ∷ filter_map f l)) ≤ suc (length l)
      go none h = omega arith
      go (some b) h = omega arith
