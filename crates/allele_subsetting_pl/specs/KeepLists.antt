-- What the functions behind the checks of row 15 ask and promise.
use Rattle.std.specs.Prelude.{◌+◌, ◌-◌, ◌<◌, ◌^◌, ◌≤◌, ℕ, eqb, ltb, Float, pos, get_or, length, Bool, ◌||◌, cond, false, true, List, [], ◌∷◌, map, ◌≡◌}
use Rattle.std.specs.Float.{fin}
use Rattle.definitions.specs.AlleleSubset.{alt_fields}
use Rattle.definitions.specs.Bytes.{comma, joined_by}
use Rattle.definitions.specs.Lists.{all_of, any_of}

-- at most 16 numbers, each an allele's
pub record KeepList (keep : List ℕ) : Type 0 where
  pub few : length keep ≤ 16
  pub alleles : all_of (λ a. ltb a 16) keep ≡ true

-- what is picked at a place that no likelihoods have; a list that fits has every place that is picked
abbrev pub absent_likelihood : Float
absent_likelihood = fin false 0 (pos 0)

-- an allele is REF or one that the GT names
abbrev pub is_assigned : List ℕ → ℕ → Bool
is_assigned gt a = eqb a 0 || any_of (eqb a) gt

-- an allele number if it is assigned, else none
abbrev pub only_assigned : Bool → ℕ → List ℕ
only_assigned assigned a = cond assigned (a ∷ []) []

-- the ALT with an allele number, and the ALTs with some, with commas between
unfoldable pub alt_with : List ℕ → ℕ → List ℕ
alt_with alts a = get_or (alt_fields alts) (a - 1) []

unfoldable pub alts_with : List ℕ → List ℕ → List ℕ
alts_with alts numbers = joined_by comma (map (alt_with alts) numbers)

-- ALTs with numbers below 16 can be laid: their bytes can be counted
pub record AltNumbers (alts numbers : List ℕ) : Type 0 where
  pub counted : 0 + length (alts_with alts numbers) < 2 ^ 64
  pub alleles : all_of (λ a. ltb a 16) numbers ≡ true
