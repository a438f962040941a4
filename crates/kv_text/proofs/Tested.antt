-- A field of 1 to `most` bytes that all pass a test: names, and letters.
use Prim.Native.Nat.{◌<◌, ◌≤◌, ℕ}
use borrow.Author.Tests.{eqb-false, eqb-true, le-leb, lt-leb}
use lib.Dec.{eqb, leb}
use lib.ListN.{length}
use mathlib.Core.Bool.{Bool, ◌&&◌, and-false, false, true}
use mathlib.Core.List.{List}
use mathlib.Core.Path.{◌≡◌}
use native.Mathlib.Omega.{arith}
use Rattle.definitions.specs.Lists.{all_of, is_there, only_if}
use Rattle.laws.proofs.Tests.{only_if_is}

-- whether a length is 0
pub eqb-below : {n : ℕ} → eqb n 0 ≡ true → n < 1
eqb-below {n} h = let e = eqb-true n 0 h in omega arith

pub eqb-above : {n : ℕ} → eqb n 0 ≡ false → 1 ≤ n
eqb-above {n} h = let e = eqb-false n 0 h in omega arith

module _ (p : ℕ → Bool) (most : ℕ) (s : List ℕ) where
  -- the answer
  abbrev pub Passed : Bool
  Passed = is_there (only_if (leb 1 (length s) && leb (length s) most && all_of p s) s)

  pub passed_empty : length s < 1 → false ≡ Passed
  passed_empty h = simp (only_if_is, lt-leb 1 (length s) h)

  pub passed_long : most < length s → false ≡ Passed
  passed_long h = simp (only_if_is, lt-leb (length s) most h, and-false)

  pub passed_start : 1 ≤ length s → length s ≤ most → Passed ≡ all_of p s
  passed_start h k = simp (only_if_is, le-leb 1 (length s) h, le-leb (length s) most k)
