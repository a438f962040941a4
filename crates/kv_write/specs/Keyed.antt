-- Lines whose key is given as bytes.
use Rattle.std.specs.Prelude.{ℕ, List, [], ◌++◌, ◌∷◌}
use Rattle.definitions.specs.Bytes.{line_feed}

-- a line: its key with `=`, its value and LF
abbrev pub keyed : List ℕ → List ℕ → List ℕ
keyed key value = key ++ value ++ (line_feed ∷ [])
