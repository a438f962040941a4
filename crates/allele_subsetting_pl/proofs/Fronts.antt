-- Values stored at the front of a list that has room for them.
-- Assumes nothing.
use Prim.Native.Nat.{◌≤◌, ℕ}
use lib.ListN.{length, take}
use lib.Seq.{length-sets, sets, sets-eq, take_at}
use mathlib.Core.List.{List}
use mathlib.Core.Path.{◌∙◌, ◌≡◌, ap, refl, sym}
use native.Mathlib.Omega.{arith}

module _ {A : Type 0} (values before : List A) {after : List A} {n : ℕ} (stored : after ≡ sets before 0 values) (room : length values ≤ length before)
    (count : n ≡ length values)
  where
    pub front : take n after ≡ values
    front = rw (stored, count, sets-eq values before 0 (omega arith)) (take_at values _ (length values) refl)

    pub front_length : n ≡ length (take n after)
    front_length = count ∙ sym (ap length front)

    pub front_within : n ≤ length after
    front_within = omega (arith, ap length stored ∙ length-sets before 0 values)
