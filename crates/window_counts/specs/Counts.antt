-- The counts of windows, with a stretch added; and what the functions ask, so that no number runs over.
use Rattle.std.specs.Prelude.{◌+◌, ◌-◌, ◌/◌, ◌<◌, ◌≤◌, suc, ℕ, ltb, get_or, cond, List, [], ◌∷◌}
use Rattle.definitions.specs.DepthWindows.{overlap}
use Rattle.definitions.specs.Limits.{max_window}
use Rattle.window_counts.specs.declared.Windows.{Windows}

-- the counts of windows, the first of which begins here, each with how many of its positions lie in a stretch added
unfoldable pub with_stretch : ℕ → ℕ → ℕ → ℕ → ℕ → List ℕ → List ℕ
with_stretch start end size step begin [] = []
with_stretch start end size step begin (count ∷ counts) =
    (count + overlap start end size begin) ∷ with_stretch start end size step (begin + step) counts

abbrev pub added : Windows → ℕ → ℕ → List ℕ → List ℕ
added w start end = with_stretch start end w.size w.step w.first.0

-- how many windows end before a position
unfoldable pub windows_before : ℕ → ℕ → ℕ → ℕ → ℕ
windows_before first size step pos = cond (ltb pos (first + size)) 0 (suc ((pos - (first + size)) / step))

-- ---- what is asked

-- a position or a number of positions up to here leaves room in 64 bits
abbrev pub position_limit : ℕ
position_limit = 4294967296

pub record OverlapReady (last size begin : ℕ) : Type 0 where
  pub last_small : last < position_limit
  pub size_small : size ≤ max_window
  pub begin_small : begin < position_limit

pub record WindowsReady (w : Windows) : Type 0 where
  pub step_some : 0 < w.step
  pub step_small : w.step ≤ max_window
  pub size_small : w.size ≤ max_window
  pub first_small : w.first.0 < position_limit

pub record SkipReady (w : Windows) (pos : ℕ) : Type 0 where
  pub windows : WindowsReady w
  pub pos_small : pos < position_limit

pub record LastReady (w : Windows) (last : ℕ) : Type 0 where
  pub step_some : 0 < w.step
  pub last_small : last < position_limit
  pub from_first : w.first.0 ≤ last

-- each count fits 32 bits
abbrev pub CountsSmall : List ℕ → Type 0
CountsSmall counts = (k : ℕ) → get_or counts k 0 < 4294967296

-- also with the stretch added
pub record OverlapsReady (w : Windows) (start end : ℕ) (counts : List ℕ) : Type 0 where
  pub size_small : w.size ≤ max_window
  pub step_small : w.step ≤ max_window
  pub end_small : end < position_limit
  pub fits : CountsSmall (added w start end counts)

pub record AddReady (w : Windows) (start end : ℕ) (counts : List ℕ) : Type 0 where
  pub windows : WindowsReady w
  pub start_small : start < position_limit
  pub end_small : end < position_limit
  pub fits : CountsSmall (added w start end counts)
