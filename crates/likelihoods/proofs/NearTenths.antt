-- Likelihoods at the front of an output, each beside its PL.
-- Assumes nothing.
use Prim.Native.Nat.{◌<◌, ◌^◌, suc, zero, ℕ}
use lib.Ieee.{Float, nan}
use lib.ListN.{get_or, length}
use mathlib.Core.List.{List, [], ◌++◌, ◌∷◌, map}
use native.Mathlib.Nat.{not-suc-le-zero}
use native.Mathlib.Omega.{arith}
use Rattle.definitions.specs.Likelihoods.{NearMinusTenth, log10_from_pl}
use Rattle.likelihoods.proofs.Tenth.{near_tenth}
use Rattle.likelihoods.specs.Written.{NearTenths}

pub near_none : (pl : List ℕ) (values : List Float) → NearTenths pl 0 values
near_none pl values k h = absurd (not-suc-le-zero h)

pub near_each : (pl : List ℕ) (behind : List Float) → ((k : ℕ) → get_or pl k 0 < 2 ^ 32) → NearTenths pl (length pl) (map log10_from_pl pl ++ behind)
near_each [] behind small k h = absurd (not-suc-le-zero h)
near_each (p ∷ pl) behind small zero h = near_tenth p (small 0)
near_each (p ∷ pl) behind small (suc k) h = near_each pl behind (λ j. small (suc j)) k (omega arith)
