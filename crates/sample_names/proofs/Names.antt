-- Names in a table: one more behind them, and in any order.
use Prim.Native.Nat.{◌*◌, ◌+◌, ◌<◌, suc, zero, ℕ}
use lib.ListN.{length, length-set, set}
use lib.Seq.{get_or-set_other, get_or-set_same}
use mathlib.Core.Bool.{Bool}
use mathlib.Core.List.{List, [], ◌++◌, ◌∷◌, map, map-append, reverse, reverse-append}
use mathlib.Core.Path.{◌∙◌, ◌≡◌, ap, ap₂, refl}
use native.Mathlib.Nat.{zero-add}
use native.Mathlib.Omega.{arith}
use Rattle.definitions.specs.Lists.{any_of, numbers_from}
use Rattle.kv_text.specs.Fields.{between}
use Rattle.laws.proofs.Members.{any_member, member_any, member_reverse, numbers_append, reverse_member}
use Rattle.laws.proofs.Tests.{bool_ext}
use Rattle.tables.specs.Tables.{name_at, names_in}

-- ---- the order

pub any_reverse : {A : Type 0} (p : A → Bool) (l : List A) → any_of p (reverse l) ≡ any_of p l
any_reverse p l =
    bool_ext _ _
    (λ h. let (a, m, e) = any_member p (reverse l) h in member_any p l (reverse_member l m) e)
    (λ h. let (a, m, e) = any_member p l h in member_any p (reverse l) (member_reverse l m) e)

-- ---- one more name

map_numbers : {A : Type 0} (f g : ℕ → A) (first count : ℕ) → ((i : ℕ) → i < first + count → f i ≡ g i)
    → map f (numbers_from first count) ≡ map g (numbers_from first count)
unfolding numbers_from
map_numbers f g first zero h = refl
map_numbers {A} f g first (suc count) h =
    ap₂ (λ (a : A) (l : List A). a ∷ l) (h first (omega arith)) (map_numbers f g (suc first) count (λ i k. h i (omega arith)))

-- the table with a name's part of the text stored behind the first i names
abbrev pub stored : List ℕ → ℕ → ℕ → ℕ → List ℕ
stored names i a e = set (set names (2 * i) a) (2 * i + 1) e

module _ (s names : List ℕ) (i a e : ℕ) (room : 2 * i + 1 < length names) where
  name_stored : name_at s (stored names i a e) i ≡ between s a e
  unfolding name_at
  name_stored =
      rw (
        get_or-set_other (set names (2 * i) a) (2 * i + 1) (2 * i) e 0 (λ q. omega arith),
        get_or-set_same names (2 * i) a 0 (omega arith),
        get_or-set_same (set names (2 * i) a) (2 * i + 1) e 0 (rw (length-set names (2 * i) a) room),
      )

  name_before : (k : ℕ) → k < i → name_at s (stored names i a e) k ≡ name_at s names k
  unfolding name_at
  name_before k h =
      rw (
        get_or-set_other (set names (2 * i) a) (2 * i + 1) (2 * k) e 0 (λ q. omega arith),
        get_or-set_other names (2 * i) (2 * k) a 0 (λ q. omega arith),
        get_or-set_other (set names (2 * i) a) (2 * i + 1) (2 * k + 1) e 0 (λ q. omega arith),
        get_or-set_other names (2 * i) (2 * k + 1) a 0 (λ q. omega arith),
      )

  names_next : names_in s (stored names i a e) (i + 1) ≡ names_in s names i ++ (between s a e ∷ [])
  unfolding names_in numbers_from
  names_next =
      ap (map (name_at s (stored names i a e))) (numbers_append 0 i 1) ∙ map-append _ (numbers_from 0 i) (numbers_from (0 + i) 1)
      ∙ ap₂ (λ (l m : List (List ℕ)). l ++ m)
      (map_numbers _ _ 0 i (λ k h. name_before k (omega arith)))
      (rw (zero-add i) (ap (λ (n : List ℕ). n ∷ []) name_stored))

  -- nearest first
  pub names_reversed : reverse (names_in s (stored names i a e) (i + 1)) ≡ between s a e ∷ reverse (names_in s names i)
  names_reversed = rw names_next (reverse-append (names_in s names i) (between s a e ∷ []))
