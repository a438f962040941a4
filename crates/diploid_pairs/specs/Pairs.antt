-- What the table and the answers of `diploid_pairs` say.
use Rattle.std.specs.Prelude.{suc, ℕ, eqb, leb, ltb, Bool, ◌&&◌, true, List, [], ◌∷◌}
use Rattle.std.proofs.Math.Option.{Option, none, some}
use Rattle.definitions.specs.Genotypes.{AllelePair, genotype_index}
use Rattle.diploid_pairs.specs.declared.AllelePair as source
use Rattle.std.specs.Prelude as std

-- a test passes at each entry of a table and its place, counted from i
unfoldable pub passes_from : {A : Type 0} → ℕ → (ℕ → A → Bool) → List A → Bool
passes_from i test [] = true
passes_from i test (x ∷ xs) = test i x && passes_from (suc i) test xs

-- the rule of the table: j ≤ k < 16, and the place is k(k+1)/2 + j
unfoldable pub in_place : ℕ → source.AllelePair → Bool
in_place place pair = leb pair.0 pair.1 && ltb pair.1 16 && eqb (genotype_index pair.0 pair.1) place

-- the answer of `pair_at`
unfoldable pub pair_of : std.Option source.AllelePair → Option AllelePair
pair_of (std.Some pair) = some (record { low = pair.0; high = pair.1 })
pair_of std.None = none
