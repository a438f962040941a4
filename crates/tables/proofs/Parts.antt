-- Parts of a text, and the numbers of a row.
use Prim.Native.Nat.{◌*◌, ◌+◌, ◌-◌, ◌≤◌, suc, zero, ℕ}
use lib.ListN.{drop, drop_of_length-le, get_or, length, length-drop, take}
use lib.Seq.{take_all, take-nil}
use mathlib.Core.List.{List, [], ◌∷◌}
use mathlib.Core.Path.{◌∙◌, ◌≡◌, refl, sym}
use native.Mathlib.Omega.{arith}
use Rattle.kv_text.specs.Fields.{between}
use Rattle.tables.specs.Tables.{column}

pub between_none : (s : List ℕ) (from to : ℕ) → to ≤ from → between s from to ≡ []
between_none s from to h = let e : to - from ≡ 0 = omega arith in rw e

pub between_past : (s : List ℕ) (from to : ℕ) → length s ≤ from → between s from to ≡ []
between_past s from to h = rw (drop_of_length-le s h, take-nil)

pub between_rest : (s : List ℕ) (from to : ℕ) → length s ≤ to → take (length s - from) (drop from s) ≡ between s from to
between_rest s from to h =
    take_all (length s - from) (drop from s) (rw (length-drop from s) (omega arith))
    ∙ sym (take_all (to - from) (drop from s) (rw (length-drop from s) (omega arith)))

pub get_d_past : (l : List ℕ) (i : ℕ) → length l ≤ i → get_or l i 0 ≡ 0
get_d_past [] i h = refl
get_d_past (x ∷ l) zero h = absurd (omega arith)
get_d_past (x ∷ l) (suc i) h = get_d_past l i (omega arith)

pub column_past : (k : ℕ) (rows : List ℕ) (site : ℕ) → length rows ≤ site * 22 + k → 0 ≡ column k rows site
unfolding column
column_past k rows site h = sym (get_d_past rows _ h)
