-- A loop over the fields of a list with commas: the answer for the fields from an offset on is the answer for all.
use Prim.Native.Nat.{◌+◌, ◌<◌, ◌≤◌, ℕ}
use lib.ListN.{drop, length}
use mathlib.Core.List.{List, [], ◌∷◌}
use mathlib.Core.Path.{◌∙◌, ◌≡◌, ap, refl, sym}
use native.Mathlib.Omega.{arith}
use Rattle.definitions.specs.Bytes.{comma, fields_of}
use Rattle.kv_text.proofs.Fields.{field_first, field_last}
use Rattle.kv_text.specs.Fields.{between, field_length}

module _ {B : Type 0} (answer : List (List ℕ) → B) (s : List ℕ) where
  pub record FieldsLeft (at : ℕ) : Type 0 where
    pub within : at ≤ length s
    pub same : answer (fields_of 44 (drop at s)) ≡ answer (fields_of comma s)

  pub fields_start : FieldsLeft 0
  unfolding comma
  fields_start = record { within = omega arith; same = refl }

  module _ (at end : ℕ) (left : FieldsLeft at) (ends : end ≡ at + field_length 44 (drop at s)) where
    -- the field that ends here decides, with what follows
    pub field_decides_with : (b : B) → end < length s → answer (between s at end ∷ fields_of 44 (drop (end + 1) s)) ≡ b → b ≡ answer (fields_of comma s)
    field_decides_with b l h = sym h ∙ sym (ap answer (field_first 44 s at end ends l)) ∙ left.same

    -- the answer is that of the fields behind it
    pub field_passed : end < length s
        → answer (between s at end ∷ fields_of 44 (drop (end + 1) s)) ≡ answer (fields_of 44 (drop (end + 1) s)) → FieldsLeft (end + 1)
    field_passed l h = record {
      within = omega arith;
      same = sym h ∙ sym (ap answer (field_first 44 s at end ends l)) ∙ left.same;
    }

    -- it is the last
    pub field_ends : length s ≤ end → answer (between s at end ∷ []) ≡ answer (fields_of comma s)
    field_ends l = sym (ap answer (field_last 44 s at end ends left.within l)) ∙ left.same
