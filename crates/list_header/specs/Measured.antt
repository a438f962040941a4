-- An offset and a count that are held at a limit while a list is measured or written.
use Rattle.std.specs.Prelude.{◌≤◌, min, ℕ, length, List, ◌≡◌}
use Rattle.std.proofs.lemmas.List.Edits.{sets}

-- the greatest offset, 2^63
abbrev pub limit : ℕ
limit = 9223372036854775808

-- the greatest count, that of a u32
abbrev pub most_count : ℕ
most_count = 4294967295

-- bytes were laid over d₀ from 0 on and gave d; `at` is where they end, or the limit if that is past it
pub record Measured (d₀ bytes d : List ℕ) (at : ℕ) : Type 0 where
  pub at_is : at ≡ min limit (length bytes)
  pub laid : d ≡ sets d₀ 0 bytes
  pub small : length d₀ ≤ limit

-- n were counted, or so many that the count stays at the greatest
pub record Counted (n count : ℕ) : Type 0 where
  pub count_is : count ≡ min most_count n
