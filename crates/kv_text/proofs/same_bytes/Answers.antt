-- The slices' `==` is that of the definitions.
use Prim.Native.Nat.{ℕ}
use mathlib.Core.Bool.{Bool, false, true}
use mathlib.Core.List.{List}
use mathlib.Core.Path.{◌≡◌, refl, sym}
use Rattle.std.proofs.lemmas.Slice.Eq.{slice_eq-Decides}
use Rattle.std.proofs.lemmas.Bool.Decides.{Decides-eqb}
use Rattle.std.specs.Bool.{Decides}
use Rattle.definitions.specs.Bytes.{same_bytes}
use Rattle.laws.proofs.Bytes.{not_same, same_refl}
use Rattle.kv_text.proofs.same_bytes.Goals as goal

decided : (a b : List ℕ) (r : Bool) → Decides r (a ≡ b) → r ≡ same_bytes a b
decided a b true d = rw (d.0 refl) (sym (same_refl b))
decided a b false d = sym (not_same a b λ e. let f = d.1 e in cc)

pub returns : goal.returns
returns c = decided _ _ _ (slice_eq-Decides Decides-eqb _ _ _ c.eq.ensures)
