-- GQ of a PL, and of none.
-- Assumes nothing.
use Prim.Native.Nat.{ℕ}
use lib.ListN.{length}
use mathlib.Core.List.{List, [], ◌∷◌}
use mathlib.Core.Option.{Option, map, none, some}
use mathlib.Core.Path.{◌≡◌, ap, refl}
use native.Mathlib.Omega.{arith}
use Rattle.definitions.specs.CalledGenotypes.{gq_from_pl}
use Rattle.definitions.specs.Lists.{only_if}
use Rattle.genotype_values.proofs.Best.{present_some}
use Rattle.genotype_values.specs.Values.{present}

pub no_gq : (pl : List ℕ) → length pl ≡ 0 → none ≡ map gq_from_pl (present pl)
unfolding only_if
no_gq [] h = refl
no_gq (x ∷ pl) h = absurd (omega arith)

pub gq_there : (pl : List ℕ) {g : ℕ} → (length pl ≡ 0 → ⊥) → g ≡ gq_from_pl pl → some g ≡ map gq_from_pl (present pl)
gq_there pl h e = rw (present_some pl (omega arith)) (ap {B = Option ℕ} some e)
