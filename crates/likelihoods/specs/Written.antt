-- What holds of the values that a call wrote.
use Rattle.std.specs.Prelude.{◌<◌, ℕ, Float, pos, get_or, take, Bool, false, List}
use Rattle.std.specs.Float.{fin, nan}
use Rattle.std.specs.Float.Ieee.{le}
use Rattle.std.specs.Prelude.{Result, Ok, Err}
use Rattle.answers.specs.declared.Refusal.{Refusal}
use Rattle.definitions.specs.Likelihoods.{NearMinusTenth}
use Rattle.definitions.specs.Lists.{all_of}

-- how many values a call wrote: none if it is refused
abbrev pub count_of : Result ℕ Refusal → ℕ
count_of (Ok n) = n
count_of (Err r) = 0

-- 0, or below it
abbrev pub not_above : Float → Bool
not_above x = le x (fin false 0 (pos 0))

-- document 01, none above 0: of the first n values
abbrev pub none_above : ℕ → List Float → Bool
none_above n values = all_of not_above (take n values)

-- document 01, the bound of 2^53: the first n values, each beside its PL
abbrev pub NearTenths : List ℕ → ℕ → List Float → Type 0
NearTenths pl n values = (k : ℕ) → k < n → NearMinusTenth (get_or pl k 0) (get_or values k nan)
