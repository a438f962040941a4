-- What every writer promises.
use Rattle.std.specs.Prelude.{◌+◌, ℕ, length, List, ◌≡◌}
use Rattle.std.proofs.lemmas.List.Edits.{sets}

-- The bytes are laid over what stood in the buffer, from the offset `at` on and as far as they fit; r is the offset behind them.
pub record Laid (before : List ℕ) (at : ℕ) (bytes after : List ℕ) (r : ℕ) : Type 0 where
  pub next : r ≡ at + length bytes
  pub laid : after ≡ sets before at bytes
