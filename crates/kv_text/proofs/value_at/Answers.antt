-- The line at the offset is the first of the lines there.
use Prim.Native.Nat.{◌+◌, ◌<◌, ℕ}
use lib.ListN.{drop, length}
use mathlib.Core.Bool.{true}
use mathlib.Core.List.{List}
use mathlib.Core.Path.{◌∙◌, ◌≡◌, refl, sym}
use native.Mathlib.Nat.{add-sub_cancel}
use native.Mathlib.Omega.{arith}
use Rattle.definitions.specs.Bytes.{strip_prefix}
use Rattle.definitions.specs.Lists.{is_there}
use Rattle.kv_text.proofs.Lines.{key_fits, line_absent, line_other_key, line_with_key}
use Rattle.kv_text.specs.Fields.{between, field_length}
use Rattle.kv_text.specs.Lines.{ValueRead, behind_line, value_before}
use Rattle.std.specs.Prelude.{Some}
use Rattle.kv_text.proofs.value_at.Goals as goal

-- the value is found, and the text goes on behind the LF at e
module _ (s : List ℕ) (at : ℕ) (key : List ℕ) (e : ℕ) (ends : e ≡ at + field_length 10 (drop at s)) where
  found : e < length s → is_there (strip_prefix key (between s at e)) ≡ true
      → ValueRead s at key (value_before (Some (at + length key)) (e + 1)) × (e + 1 ≡ behind_line at (value_before (Some (at + length key)) (e + 1)))
  found h there =
      rw add-sub_cancel
      ((line_with_key s at key e ends h there, record { begins = refl; forward = key_fits s at key e ends there }), refl)

pub returns-then-end-s : goal.returns-then-end-s
returns-then-end-s c = ((line_absent _ _ _ _ c.field_end-end.ensures c.if-end-s.true, tt), refl)

pub returns-then-not-has_key : goal.returns-then-not-has_key
returns-then-not-has_key c = let ends = c.field_end-end.ensures in
    ((line_other_key _ _ _ _ ends (omega arith) (sym c.has_key.ensures ∙ c.if-not-has_key.true), tt), refl)

pub returns : goal.returns
returns c = let ends = c.field_end-end.ensures in
    found _ _ _ _ ends (omega arith) (sym c.has_key.ensures ∙ c.if-not-has_key.false)
