-- The fields of a text are what the library's `split` gives.
use Prim.Native.Nat.{ℕ}
use lib.Dec.{eqb}
use mathlib.Core.Bool.{Bool, cond, false, true}
use mathlib.Core.List.{List, [], ◌∷◌}
use mathlib.Core.Path.{◌≡◌, refl}
use Rattle.std.specs.List.{onto_first, slice_split}
use Rattle.definitions.specs.Bytes.{fields_of}
use Rattle.definitions.specs.Lists.{split_where, to_first}

pub fields_split : (separator : ℕ) (s : List ℕ) → slice_split (λ b. eqb b separator) s ≡ fields_of separator s
unfolding fields_of split_where to_first
fields_split separator [] = refl
fields_split separator (b ∷ s) = rw (fields_split separator s) (go (eqb b separator) (split_where (λ c. eqb c separator) s))
  where
    first : (fs : List (List ℕ)) → onto_first b fs ≡ to_first b fs
    first [] = refl
    first (f ∷ fs) = refl

    go : (t : Bool) (fs : List (List ℕ)) → cond t ([] ∷ fs) (onto_first b fs) ≡ cond t ([] ∷ fs) (to_first b fs)
    go true fs = refl
    go false fs = first fs
