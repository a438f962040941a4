-- What the functions that remap values promise.
use Rattle.std.specs.Prelude.{suc, ℕ, leb, get_or, length, cond, List, [], ◌∷◌, map, ◌≡◌}
use Rattle.std.proofs.lemmas.List.Edits.{sets}
use Rattle.definitions.specs.Alleles.{genotype_count}
use Rattle.definitions.specs.Genotypes.{remapped_pl}
use Rattle.definitions.specs.Lists.{numbers_from}
use Rattle.genotype_values.specs.Values.{mapped_place}

-- PL of the pairs whose higher allele is `high`, by the lower one; that PL is these rows one behind the other is `pl_by_rows` of proofs/Rows.antt
unfoldable pub pl_row : List ℕ → List ℕ → ℕ → List ℕ
pl_row allele_map pl high = map (λ low. get_or pl (mapped_place allele_map (record { low = low; high = high })) 0) (numbers_from 0 (suc high))

-- PL over at most 16 alleles is laid over what stood there, and r says how many values it has; a longer map changes nothing and has none
pub record PlRemapped (allele_map pl before after : List ℕ) (r : ℕ) : Type 0 where
  pub values : after ≡ cond (leb (length allele_map) 16) (sets before 0 (remapped_pl allele_map pl)) before
  pub count : r ≡ cond (leb (length allele_map) 16) (genotype_count (length allele_map)) 0

-- values are laid over what stood there, and r says how many
pub record Filled (values before after : List ℕ) (r : ℕ) : Type 0 where
  pub laid : after ≡ sets before 0 values
  pub count : r ≡ length values

-- values made of those in a slice, if there are any
unfoldable pub of_present : (List ℕ → List ℕ) → List ℕ → List ℕ
of_present f [] = []
of_present f (x ∷ xs) = f (x ∷ xs)
