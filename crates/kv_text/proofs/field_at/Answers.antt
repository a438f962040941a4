-- The loop's invariant: the field that is looked for is the one with `left` before it of those from `at` on.
use Prim.Native.Nat.{◌+◌, ◌-◌, ◌<◌, ◌≤◌, suc, ℕ}
use lib.ListN.{drop, get_or, length, length-drop, length-take, take}
use mathlib.Core.List.{List, [], ◌∷◌}
use mathlib.Core.Path.{◌∙◌, ◌≡◌, ap, refl}
use native.Mathlib.Decide.{dec_lt}
use native.Mathlib.Nat.{sub-zero, zero-add}
use native.Mathlib.Omega.{arith}
use Rattle.definitions.specs.Bytes.{fields_of}
use Rattle.kv_text.proofs.Fields.{field_first, field_forward, field_last, field_within}
use Rattle.kv_text.specs.Fields.{FieldFound, between, field_length, field_start, separated_length}
use Rattle.std.specs.Prelude as std
use Rattle.kv_text.proofs.field_at.Invariants.{Turn}
use Rattle.kv_text.proofs.field_at.Goals as goal

first : (s : List ℕ) (separator n end : ℕ) → end ≡ 0 + field_length separator (drop 0 s) → Turn s separator n n 0 end
unfolding field_start
first s separator n end e = record { within = omega arith; ends = e; same = refl; count = refl; start = rw zero-add }

module _ (s : List ℕ) (separator n left at end : ℕ) (t : Turn s separator n left at end) where
  field-length : length (between s at end) ≡ end - at
  field-length =
      let whole = field_within separator s at end t.ends t.within in
      omega (arith, length-take (end - at) (drop at s), length-drop at s)

  next : (end' : ℕ) → 0 < left → end < length s → end' ≡ (end + 1) + field_length separator (drop (end + 1) s)
      → Turn s separator n (left - 1) (end + 1) end'
  unfolding separated_length
  next end' some_left h e =
      let cut = field_first separator s at end t.ends h in
      let one_less : left ≡ suc (left - 1) = omega arith in
      record {
        within = omega arith;
        ends = e;
        same = t.same ∙ rw cut (ap (λ (k : ℕ). get_or (between s at end ∷ fields_of separator (drop (end + 1) s)) k []) one_less);
        count = omega (arith, t.count, ap length cut);
        start =
            let passed : separated_length (take left (fields_of separator (drop at s)))
            ≡ length (between s at end) + 1 + separated_length (take (left - 1) (fields_of separator (drop (end + 1) s))) =
            rw cut (ap (λ (k : ℕ). separated_length (take k (between s at end ∷ fields_of separator (drop (end + 1) s)))) one_less) in
            omega (arith, t.start, field-length, field_forward separator s at end t.ends);
      }

  too_few : 0 < left → length s ≤ end → FieldFound s separator n std.None
  unfolding FieldFound
  too_few some_left h = omega (arith, t.count, ap length (field_last separator s at end t.ends t.within h))

  -- the field is the first of those from `at` on
  here : (fs : List (List ℕ)) → left ≤ 0 → fields_of separator (drop at s) ≡ between s at end ∷ fs → FieldFound s separator n (std.Some (record { at = at; end = end }))
  unfolding FieldFound separated_length
  here fs none_left cut =
      let zero_left : left ≡ 0 = omega arith in
      let is_field : get_or (fields_of separator s) n [] ≡ between s at end = t.same ∙ rw (cut, zero_left) in
      let none_before : separated_length (take left (fields_of separator (drop at s))) ≡ 0 = rw zero_left in (
        omega (arith, t.count, ap length cut),
        is_field,
        field_forward separator s at end t.ends,
        field_within separator s at end t.ends t.within,
        omega (arith, t.start),
        omega (arith, ap length is_field, field-length, field_forward separator s at end t.ends),
      )

  found : left ≤ 0 → FieldFound s separator n (std.Some (record { at = at; end = end }))
  found none_left = go (dec_lt end (length s))
    where
      go : Dec (end < length s) → FieldFound s separator n (std.Some (record { at = at; end = end }))
      go (yes h) = here _ none_left (field_first separator s at end t.ends h)
      go (no h) = here _ none_left (field_last separator s at end t.ends t.within (omega arith))

pub loop-init : goal.loop-init
loop-init c = rw sub-zero (first _ _ _ _ c.field_end-end.ensures)

pub returns-then-s-end : goal.returns-then-s-end
returns-then-s-end c = too_few _ _ _ _ _ _ c.loop.invariant (omega arith) c.if-s-end.true

pub loop-preserved : goal.loop-preserved
loop-preserved c =
    let one-less : c.args.number - (c.loop.counter + 1) ≡ c.args.number - c.loop.counter - 1 = omega arith in
    rw one-less (next _ _ _ _ _ _ c.loop.invariant _ (omega arith) (omega arith) c.field_end-end-in-loop.ensures)

pub returns : goal.returns
returns c = found _ _ _ _ _ _ c.loop.invariant (omega arith)
