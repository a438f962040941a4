-- The loop's invariant: the field's number is that of its bytes left, after the number so far, and the field ends where they do.
use Prim.Native.Nat.{◌*◌, ◌+◌, ◌-◌, ◌<◌, ◌≤◌, ℕ}
use borrow.Author.Tests.{eqb-false, eqb-true}
use lib.ListN.{drop, drop_of_length-le, get_or, length}
use lib.Seq.{drop-cons}
use mathlib.Core.Bool.{false, true}
use mathlib.Core.List.{List, [], ◌∷◌}
use mathlib.Core.Logic.{◌≢◌}
use mathlib.Core.Option.{none, some}
use mathlib.Core.Path.{◌∙◌, ◌≡◌, refl, sym}
use native.Mathlib.Decide.{ℕ_discrete}
use native.Mathlib.Numerals.{add-one}
use native.Mathlib.Omega.{arith}
use Rattle.definitions.specs.Bytes.{comma}
use Rattle.definitions.specs.Numbers.{is_digit, number}
use Rattle.kv_text.proofs.Digits.{digit_is, number_digit, number_leading_zero, number_none, number_other, number_zero, rest_digit, rest_none, rest_other, rest_too_great}
use Rattle.kv_text.proofs.Fields.{field_more, field_none, field_stop, first_more, first_none, first_stop}
use Rattle.kv_text.specs.Fields.{digits_read, field_length, first_field}
use Rattle.std.specs.Prelude as std
use Rattle.kv_text.proofs.read_digits.Invariants.{Reading}
use Rattle.kv_text.proofs.read_digits.Goals as goal

cut : (s : List ℕ) (i : ℕ) → i < length s → drop i s ≡ get_or s i 0 ∷ drop (i + 1) s
cut s i h = rw add-one (drop-cons s i 0 h)

no_comma : (b : ℕ) → is_digit b ≡ true → b ≢ 44
no_comma b d e = omega (arith, (digit_is b d).from)

-- the first byte
zero-alone : (f : List ℕ) → length f ≡ 0 → number (48 ∷ f) ≡ some 0
zero-alone [] h = number_zero
zero-alone (c ∷ f) h = absurd (omega arith)

zero-leads : (f : List ℕ) → length f ≢ 0 → number (48 ∷ f) ≡ none
zero-leads [] h = absurd (h refl)
zero-leads (c ∷ f) h = number_leading_zero c f

module _ (s : List ℕ) (at : ℕ) where
  empty : length s ≤ at → digits_read std.None s at
  unfolding digits_read comma
  empty h = rw (drop_of_length-le s h, first_none 44) number_none

  module _ (h : at < length s) where
    no_digit : is_digit (get_or s at 0) ≡ false → digits_read std.None s at
    unfolding digits_read comma
    no_digit d = rw (cut s at h) (go (ℕ_discrete (get_or s at 0) 44))
      where
        go : Dec (get_or s at 0 ≡ 44) → number (first_field 44 (get_or s at 0 ∷ drop (at + 1) s)) ≡ none
        go (yes e) = rw (first_stop 44 _ (drop (at + 1) s) e) number_none
        go (no n) = rw (first_more 44 _ (drop (at + 1) s) n) (number_other _ _ d)

    module _ (z : get_or s at 0 ≡ 48) where
      first-zero : first_field 44 (drop at s) ≡ 48 ∷ first_field 44 (drop (at + 1) s)
      first-zero = rw (cut s at h, z) (first_more 44 48 (drop (at + 1) s) (λ e. omega arith))

      zero-stands : field_length 44 (drop (at + 1) s) ≡ 0 → digits_read (std.Some (0, at + 1)) s at
      unfolding digits_read comma field_length
      zero-stands e = (rw first-zero (zero-alone _ e), rw first-zero (omega (arith, e)))

      zero-before : field_length 44 (drop (at + 1) s) ≢ 0 → digits_read std.None s at
      unfolding digits_read comma field_length
      zero-before n = rw first-zero (zero-leads _ n)

    start : is_digit (get_or s at 0) ≡ true → get_or s at 0 ≢ 48 → Reading s at (at + 1) (get_or s at 0 - 48)
    start d n =
        let more = no_comma _ d in
        record {
          small = omega (arith, (digit_is _ d).to);
          value = rw (cut s at h, first_more 44 _ (drop (at + 1) s) more) (number_digit _ _ d n);
          ends = rw (cut s at h, field_more 44 _ (drop (at + 1) s) more) (omega arith);
        }

-- a turn, and the end
module _ (s : List ℕ) (at i n : ℕ) (r : Reading s at i n) where
  at_end : length s ≤ i → digits_read (std.Some (n, i)) s at
  unfolding digits_read comma
  at_end h = (
    rw (r.value, drop_of_length-le s h, first_none 44) (rest_none n r.small),
    rw (r.ends, drop_of_length-le s h, field_none 44) (omega arith),
  )

  module _ (h : i < length s) where
    at-comma : get_or s i 0 ≡ 44 → digits_read (std.Some (n, i)) s at
    unfolding digits_read comma
    at-comma e = (
      rw (r.value, cut s i h, first_stop 44 _ (drop (i + 1) s) e) (rest_none n r.small),
      rw (r.ends, cut s i h, field_stop 44 _ (drop (i + 1) s) e) (omega arith),
    )

    at_other : is_digit (get_or s i 0) ≡ false → get_or s i 0 ≢ 44 → digits_read std.None s at
    unfolding digits_read comma
    at_other d m = rw (r.value, cut s i h, first_more 44 _ (drop (i + 1) s) m) (rest_other n _ _ d)

    module _ (d : is_digit (get_or s i 0) ≡ true) where
      too-great : 2147483647 < n * 10 + (get_or s i 0 - 48) → digits_read std.None s at
      unfolding digits_read comma
      too-great g = rw (r.value, cut s i h, first_more 44 _ (drop (i + 1) s) (no_comma _ d)) (rest_too_great n _ _ g)

      next : n * 10 + (get_or s i 0 - 48) ≤ 2147483647 → Reading s at (i + 1) (n * 10 + (get_or s i 0 - 48))
      next g =
          let more = first_more 44 _ (drop (i + 1) s) (no_comma _ d) in
          record {
            small = g;
            value = rw (r.value, cut s i h, more) (rest_digit n _ _ d);
            ends = rw (r.ends, cut s i h, field_more 44 _ (drop (i + 1) s) (no_comma _ d)) (omega arith);
          }

pub returns-then-s-at : goal.returns-then-s-at
returns-then-s-at c = empty _ _ c.if-s-at.true

pub returns-then-not-is_digit : goal.returns-then-not-is_digit
returns-then-not-is_digit c = no_digit _ _ (omega arith) (sym c.is_digit.ensures ∙ c.if-not-is_digit.true)

pub returns-then-is_field_end : goal.returns-then-is_field_end
unfolding comma
returns-then-is_field_end c = zero-stands _ _ (omega arith) c.if-first-eq48.true (eqb-true _ _ (sym c.is_field_end.ensures ∙ c.if-is_field_end.true))

pub returns-then-first-eq48 : goal.returns-then-first-eq48
unfolding comma
returns-then-first-eq48 c = zero-before _ _ (omega arith) c.if-first-eq48.true (eqb-false _ _ (sym c.is_field_end.ensures ∙ c.if-is_field_end.false))

pub overflow_sub-first : goal.overflow_sub-first
overflow_sub-first c = omega (arith, (digit_is _ (sym c.is_digit.ensures ∙ c.if-not-is_digit.false)).from)

pub loop-i-init : goal.loop-i-init
loop-i-init c = rw c.wide-n.ensures (start _ _ (omega arith) (sym c.is_digit.ensures ∙ c.if-not-is_digit.false) c.if-first-eq48.false)

pub overflow_cast-result : goal.overflow_cast-result
overflow_cast-result c = omega (arith, c.loop-i.invariant.small)

pub returns-then-b-eq44 : goal.returns-then-b-eq44
returns-then-b-eq44 c = at-comma _ _ _ _ c.loop-i.invariant (omega arith) c.if-b-eq44.true

pub returns-then-not-is_digit-2 : goal.returns-then-not-is_digit-2
returns-then-not-is_digit-2 c = at_other _ _ _ _ c.loop-i.invariant (omega arith) (sym c.is_digit-in-loop-i.ensures ∙ c.if-not-is_digit-2.true) c.if-b-eq44.false

pub overflow_mul-v : goal.overflow_mul-v
overflow_mul-v c = omega (arith, c.loop-i.invariant.small)

pub overflow_sub-b : goal.overflow_sub-b
overflow_sub-b c = omega (arith, (digit_is _ (sym c.is_digit-in-loop-i.ensures ∙ c.if-not-is_digit-2.false)).from)

pub overflow_add-v : goal.overflow_add-v
overflow_add-v c = omega (arith, c.loop-i.invariant.small, c.wide.ensures, (digit_is _ (sym c.is_digit-in-loop-i.ensures ∙ c.if-not-is_digit-2.false)).to)

pub returns-then-v-gt2147483647 : goal.returns-then-v-gt2147483647
returns-then-v-gt2147483647 c = too-great _ _ _ _ c.loop-i.invariant (omega arith) (sym c.is_digit-in-loop-i.ensures ∙ c.if-not-is_digit-2.false) (omega (arith, c.wide.ensures))

pub loop-i-preserved : goal.loop-i-preserved
loop-i-preserved c = rw c.wide.ensures
    (next _ _ _ _ c.loop-i.invariant (omega arith) (sym c.is_digit-in-loop-i.ensures ∙ c.if-not-is_digit-2.false) (omega (arith, c.wide.ensures)))

pub overflow_cast-result-2 : goal.overflow_cast-result-2
overflow_cast-result-2 c = omega (arith, c.loop-i.invariant.small)

pub returns : goal.returns
returns c =
    let end : c.loop-i.i ≡ length c.args.s.now = omega arith in
    at_end _ _ _ _ (rw end at c.loop-i.invariant) (omega arith)
