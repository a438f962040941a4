-- A text with a comma is no number, and one without is its own first field.
use Prim.Native.Nat.{◌<◌, ◌≤◌, ℕ}
use lib.ListN.{length}
use mathlib.Core.Bool.{and-false, false}
use mathlib.Core.List.{List, [], ◌∷◌}
use mathlib.Core.Option.{none, some}
use mathlib.Core.Path.{◌≡◌, sym}
use native.Mathlib.Decide.{dec_lt, ℕ_discrete}
use native.Mathlib.Omega.{arith}
use Rattle.definitions.specs.Bytes.{comma}
use Rattle.definitions.specs.Lists.{all_of, only_if}
use Rattle.definitions.specs.Numbers.{is_digit, number}
use Rattle.kv_text.proofs.Fields.{field_more, first_whole}
use Rattle.kv_text.specs.Fields.{digits_read, field_length}
use Rattle.std.specs.Prelude.{None, Some}
use Rattle.kv_text.proofs.read_number.Goals as goal

not-digits : (s : List ℕ) → field_length 44 s < length s → all_of is_digit s ≡ false
unfolding all_of is_digit
not-digits [] h = absurd (omega arith)
not-digits (b ∷ s) h = go (ℕ_discrete b 44) (not-digits s)
  where
    go : Dec (b ≡ 44) → (field_length 44 s < length s → all_of is_digit s ≡ false) → all_of is_digit (b ∷ s) ≡ false
    go (yes e) r = rw e
    go (no n) r = simp (r (omega (arith, field_more 44 b s n)), and-false)

module _ (s : List ℕ) where
  with-comma : field_length 44 s < length s → none ≡ number s
  unfolding number only_if
  with-comma h = simp (not-digits s h)

  fault : digits_read None s 0 → none ≡ number s
  unfolding digits_read comma
  fault e = go (dec_lt (field_length 44 s) (length s))
    where
      go : Dec (field_length 44 s < length s) → none ≡ number s
      go (yes h) = with-comma h
      go (no h) = rw (first_whole 44 s (omega arith)) at (sym e)

  module _ (n end : ℕ) (r : digits_read (Some (n, end)) s 0) where
    inside : end < length s → none ≡ number s
    unfolding digits_read comma
    inside h = with-comma (omega (arith, r.1))

    whole : length s ≤ end → some n ≡ number s
    unfolding digits_read comma
    whole h = rw (first_whole 44 s (omega (arith, r.1))) at (sym r.0)

pub returns-in_err-n : goal.returns-in_err-n
returns-in_err-n c = rw c.from_residual.ensures (fault _ c.in_err-n.ensures)

pub returns-then-end-s : goal.returns-then-end-s
returns-then-end-s c = inside _ _ _ c.in_ok-n.ensures c.if-end-s.true

pub returns : goal.returns
returns c = whole _ _ _ c.in_ok-n.ensures c.if-end-s.false
