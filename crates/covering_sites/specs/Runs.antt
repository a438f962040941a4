-- Numbers in runs, one for each sample: a list that holds one run behind the other, and the bounds between them.
use Rattle.std.specs.Prelude.{◌+◌, ◌<◌, ◌≤◌, suc, ℕ, get_or, length, take, Bool, false, true, ◌≡◌}
use Rattle.std.proofs.lemmas.List.Edits.{sets}
use mathlib.Core.List.{List, [], ◌∷◌, flat_map, map}
use Rattle.definitions.specs.Lists.{numbers_from}
use Rattle.kv_text.specs.Fields.{between}

-- the run of a sample: from its bound to just before the next one
unfoldable pub run_at : List ℕ → List ℕ → ℕ → List ℕ
run_at list bounds x = between list (get_or bounds x 0) (get_or bounds (x + 1) 0)

-- bounds of the runs of so many samples, in a list of this length
pub record Bounded (size : ℕ) (bounds : List ℕ) (samples : ℕ) : Type 0 where
  pub long : samples < length bounds
  pub up : (x : ℕ) → x < samples → get_or bounds x 0 ≤ get_or bounds (x + 1) 0
  pub within : (x : ℕ) → x < samples → get_or bounds (x + 1) 0 ≤ size

-- the list holds these runs, from its beginning on
pub record Runs (list bounds : List ℕ) (samples : ℕ) (run : ℕ → List ℕ) : Type 0 where
  pub bounded : Bounded (length list) bounds samples
  pub each : (x : ℕ) → x < samples → run_at list bounds x ≡ run x
  pub whole : take (get_or bounds samples 0) list ≡ flat_map run (numbers_from 0 samples)

-- where each run begins if they stand one behind the other, and where the last one ends
unfoldable pub run_bounds : (ℕ → List ℕ) → ℕ → List ℕ
run_bounds run samples = map (λ x. length (flat_map run (numbers_from 0 x))) (numbers_from 0 (suc samples))

-- the runs and their bounds are stored from the beginning on, and behind them both lists are as they were
pub record RunsStored (list₀ bounds₀ list bounds : List ℕ) (samples : ℕ) (run : ℕ → List ℕ) : Type 0 where
  pub in_list : list ≡ sets list₀ 0 (flat_map run (numbers_from 0 samples))
  pub in_bounds : bounds ≡ sets bounds₀ 0 (run_bounds run samples)

-- a number, or nothing if the test fails
abbrev pub only_when : Bool → ℕ → List ℕ
only_when true n = n ∷ []
only_when false n = []
