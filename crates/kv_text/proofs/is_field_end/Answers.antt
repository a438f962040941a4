-- The field at an offset is empty where a comma or nothing stands.
use Prim.Native.Nat.{◌<◌, ◌≤◌, suc, ℕ}
use borrow.Author.Tests.{eq-eqb, le-leb, ne_eqb}
use lib.Dec.{eqb}
use lib.ListN.{drop, drop_of_length-le, get_or, length}
use lib.Seq.{drop-cons}
use mathlib.Core.Bool.{true}
use mathlib.Core.List.{List, ◌∷◌}
use mathlib.Core.Path.{◌∙◌, ◌≡◌, sym}
use native.Mathlib.Decide.{ℕ_discrete}
use native.Mathlib.Omega.{arith}
use Rattle.definitions.specs.Bytes.{comma}
use Rattle.kv_text.proofs.Fields.{field_more, field_none, field_stop}
use Rattle.kv_text.specs.Fields.{field_length}
use Rattle.kv_text.proofs.is_field_end.Goals as goal

module _ (s : List ℕ) (at : ℕ) where
  past : length s ≤ at → true ≡ eqb (field_length 44 (drop at s)) 0
  past h = rw (drop_of_length-le s h, field_none 44)

  here : at < length s → eqb (get_or s at 0) 44 ≡ eqb (field_length 44 (drop at s)) 0
  here h = rw (drop-cons s at 0) (go (ℕ_discrete (get_or s at 0) 44))
    where
      go : Dec (get_or s at 0 ≡ 44) → eqb (get_or s at 0) 44 ≡ eqb (field_length 44 (get_or s at 0 ∷ drop (suc at) s)) 0
      go (yes e) = rw (field_stop 44 (get_or s at 0) (drop (suc at) s) e, eq-eqb _ _ e)
      go (no n) =
          let k = field_length 44 (drop (suc at) s) in
          rw (field_more 44 (get_or s at 0) (drop (suc at) s) n, ne_eqb _ _ n) (sym (ne_eqb (suc k) 0 λ e. omega arith))

pub returns-then-s-at : goal.returns-then-s-at
unfolding comma
returns-then-s-at c = le-leb _ _ c.if-s-at.true ∙ past _ _ c.if-s-at.true

pub returns-else-s-at : goal.returns-else-s-at
unfolding comma
returns-else-s-at c = here c.args.s.now c.args.at (omega arith)
