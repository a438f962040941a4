-- A list of numbers with commas, field by field: `first_numbers`, and whether all fields are numbers.
use Prim.Native.Nat.{ℕ}
use mathlib.Core.List.{List, [], ◌∷◌, map}
use mathlib.Core.Option.{Option, none, some}
use mathlib.Core.Path.{◌∙◌, ◌≡◌, ap, refl, sym}
use Rattle.definitions.specs.Bytes.{comma, fields_of}
use Rattle.definitions.specs.Lists.{all_some}
use Rattle.definitions.specs.Numbers.{number, number_list}
use Rattle.laws.proofs.Every.{IfThere}
use Rattle.kv_text.specs.Fields.{first_numbers}

-- the numbers of all fields, if each is one
abbrev pub all_numbers : List (List ℕ) → Option (List ℕ)
all_numbers fs = all_some (map number fs)

module _ (f : List ℕ) (fs : List (List ℕ)) where
  pub first_fault : number f ≡ none → first_numbers (f ∷ fs) ≡ []
  unfolding first_numbers
  first_fault h = rw h

  pub all_fault : number f ≡ none → all_numbers (f ∷ fs) ≡ none
  unfolding all_some
  all_fault h = rw h

  pub first_number : {n : ℕ} → number f ≡ some n → first_numbers (f ∷ fs) ≡ n ∷ first_numbers fs
  unfolding first_numbers
  first_number h = rw h

  pub all_number : {n : ℕ} → number f ≡ some n → all_numbers fs ≡ some (first_numbers fs) → all_numbers (f ∷ fs) ≡ some (first_numbers (f ∷ fs))
  unfolding all_some
  all_number h r = rw (first_number h) (rw (h, r))

  pub all_later_fault : {n : ℕ} → number f ≡ some n → all_numbers fs ≡ none → all_numbers (f ∷ fs) ≡ none
  unfolding all_some
  all_later_fault h r = rw (h, r)

pub all_nothing : all_numbers [] ≡ some (first_numbers [])
unfolding all_some first_numbers
all_nothing = refl

-- if all fields are numbers, these are the first numbers
first_all : (fs : List (List ℕ)) → IfThere (λ ns. first_numbers fs ≡ ns) (all_numbers fs)
unfolding all_some first_numbers
first_all [] = refl
first_all (f ∷ fs) = go (number f) refl (all_numbers fs) refl (first_all fs)
  where
    go : (o : Option ℕ) → number f ≡ o → (r : Option (List ℕ)) → all_numbers fs ≡ r → IfThere (λ ns. first_numbers fs ≡ ns) r
        → IfThere (λ ns. first_numbers (f ∷ fs) ≡ ns) (all_numbers (f ∷ fs))
    go none e r q h = rw (all_fault f fs e) tt
    go (some n) e none q h = rw (all_later_fault f fs e q) tt
    go (some n) e (some ns) q h = rw (all_number f fs e (q ∙ ap {B = Option (List ℕ)} some (sym h))) refl

pub first_numbers_lem : (list : List ℕ) → IfThere (λ ns. first_numbers (fields_of comma list) ≡ ns) (number_list list)
unfolding number_list
first_numbers_lem list = first_all (fields_of comma list)
