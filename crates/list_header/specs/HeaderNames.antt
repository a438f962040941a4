-- What the header is laid from.
use Rattle.std.specs.Prelude.{◌*◌, ◌≤◌, ℕ, length, List}
use Rattle.definitions.specs.Limits.{max_samples}
use Rattle.laws.proofs.Every.{Every}
use Rattle.laws.proofs.SoundValues.{Name}
use Rattle.tables.specs.Tables.{names_in}

-- a table has this many names, which stand in a text
pub record HeaderNames (s names : List ℕ) (samples : ℕ) : Type 0 where
  pub in_table : 2 * samples ≤ length names
  pub few : samples ≤ max_samples
  pub named : Every Name (names_in s names samples)
