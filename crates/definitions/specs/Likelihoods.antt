-- Log10 genotype likelihoods from PL, in binary64.
use Rattle.std.specs.Prelude.{◌*◌, ◌+◌, ◌-◌, ◌^◌, ◌≤◌, ℕ, Float, true, ◌≡◌}
use Rattle.std.specs.Float.{binary64, fin, inf, nan}
use Rattle.std.specs.Float.Ieee.{down, round, up}

-- the likelihood of PL p: minus p over 10, rounded once
unfoldable pub log10_from_pl : ℕ → Float
log10_from_pl p = round binary64 true p 10

-- how far apart two numbers are
unfoldable pub distance : ℕ → ℕ → ℕ
distance a b = (a - b) + (b - a)

-- x is not above 0, and 2^53 times the distance of ten times x from −p is at most p.
-- A finite x is ± m · 2^e, and 2^e is the fraction up e / down e: both sides are multiplied by down e.
unfoldable pub NearMinusTenth : ℕ → Float → Type 0
NearMinusTenth p nan = ⊥
NearMinusTenth p (inf s) = ⊥
NearMinusTenth p (fin s m e) = (s ≡ true) × (2 ^ 53 * distance (10 * (m * up e)) (p * down e) ≤ p * down e)
