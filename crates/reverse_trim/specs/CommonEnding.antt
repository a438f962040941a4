-- Parts of the definition of `suffix_clip_count`.
use Rattle.std.specs.Prelude.{◌-◌, min, ℕ, length, List, [], ◌∷◌, map}
use Rattle.definitions.specs.Genotypes.{least}
use Rattle.definitions.specs.ReverseTrim.{common_suffix_length}

-- how many letters REF and another allele end on alike, one letter of the other left
abbrev pub common_ending : List ℕ → List ℕ → ℕ
common_ending ref allele = min (common_suffix_length (ref ∷ allele ∷ [])) (length allele - 1)

-- how many letters all of these end on alike, one letter of each left
abbrev pub common_ending_of_all : List (List ℕ) → ℕ
common_ending_of_all ss = min (common_suffix_length ss) (least (map length ss) - 1)
