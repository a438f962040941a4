-- ALTs as a list with commas: the one with a number, and how long those with some numbers are.
-- Assumes nothing.
use Prim.Native.Nat.{◌+◌, ◌-◌, ◌<◌, ◌≤◌, suc, zero, ℕ}
use borrow.Author.Tests.{eq-eqb, ne_eqb}
use Rattle.std.specs.Prelude.{None, Some}
use lib.Dec.{eqb}
use lib.ListN.{get_or-eq_default, drop, drop_of_length-le, get_or, length, length-append}
use lib.Seq.{drop-cons}
use mathlib.Core.Bool.{Bool, cond, false, true}
use mathlib.Core.List.{List, [], ◌∷◌, map}
use mathlib.Core.Path.{◌∙◌, ◌≡◌, ap, refl, sym}
use native.Mathlib.Omega.{arith}
use Rattle.allele_subsetting_pl.specs.KeepLists.{alt_with, alts_with}
use Rattle.definitions.specs.AlleleSubset.{alt_fields}
use Rattle.definitions.specs.Bytes.{comma, fields_of, joined_by}
use Rattle.definitions.specs.Lists.{filter_by, numbers_from, split_where, to_first}
use Rattle.kv_text.specs.Fields.{FieldFound, between}
use Rattle.kv_text.specs.declared.Part.{Part}

-- ---- fields

module _ (alts : List ℕ) where
  pub fields_none : length alts ≡ 0 → alt_fields alts ≡ []
  unfolding alt_fields
  fields_none h = simp (eq-eqb (length alts) 0 h)

  pub fields_some : (length alts ≡ 0 → ⊥) → alt_fields alts ≡ fields_of comma alts
  unfolding alt_fields
  fields_some h = simp (ne_eqb (length alts) 0 h)

some_byte : (b : ℕ) (s : List ℕ) → alt_fields (b ∷ s) ≡ fields_of comma (b ∷ s)
some_byte b s = fields_some (b ∷ s) (λ e. omega arith)

-- the field of an empty text is empty too
field_is : (alts : List ℕ) (k : ℕ) → get_or (alt_fields alts) k [] ≡ get_or (fields_of comma alts) k []
unfolding alt_fields fields_of split_where
field_is [] zero = refl
field_is [] (suc k) = refl
field_is (b ∷ s) k = ap (λ fs. get_or fs k []) (some_byte b s)

module _ (alts : List ℕ) (a : ℕ) {k : ℕ} {r : List ℕ} (index : k ≡ a - 1) where
  pub alt_found : (f : Part) → FieldFound alts 44 k (Some f) → r ≡ between alts f.at f.end → r ≡ alt_with alts a
  unfolding FieldFound alt_with comma
  alt_found part f h = h ∙ sym f.1 ∙ sym (field_is alts k) ∙ ap (λ i. get_or (alt_fields alts) i []) index

  pub alt_absent : FieldFound alts 44 k None → r ≡ [] → r ≡ alt_with alts a
  unfolding FieldFound alt_with comma
  alt_absent f h =
      h ∙ sym (get_or-eq_default (fields_of comma alts) [] f) ∙ sym (field_is alts k) ∙ ap (λ i. get_or (alt_fields alts) i []) index

-- ---- lengths

-- the bytes of fields, one more for each
total : List (List ℕ) → ℕ
total [] = 0
total (f ∷ fs) = suc (length f + total fs)

joined_total : (separator : ℕ) (f : List ℕ) (fs : List (List ℕ)) → suc (length (joined_by separator (f ∷ fs))) ≡ total (f ∷ fs)
unfolding joined_by total
joined_total separator f [] = omega arith
joined_total separator f (g ∷ fs) =
    omega (arith, length-append f (separator ∷ joined_by separator (g ∷ fs)), joined_total separator g fs)

joined_length : (separator : ℕ) (fs : List (List ℕ)) → length (joined_by separator fs) ≤ total fs - 1
unfolding joined_by total
joined_length separator [] = omega arith
joined_length separator (f ∷ fs) = omega (arith, joined_total separator f fs)

total_first : (x : ℕ) (fs : List (List ℕ)) (n : ℕ) → total fs ≡ suc n → total (to_first x fs) ≡ suc (suc n)
unfolding total to_first
total_first x [] n e = absurd (omega arith)
total_first x (f ∷ fs) n e = omega arith

total_split : (p : ℕ → Bool) (s : List ℕ) → total (split_where p s) ≡ suc (length s)
unfolding split_where total
total_split p [] = refl
total_split p (x ∷ s) = go (p x) (total_split p s)
  where
    go : (b : Bool) → total (split_where p s) ≡ suc (length s) → total (cond b ([] ∷ split_where p s) (to_first x (split_where p s))) ≡ suc (suc (length s))
    go true e = omega arith
    go false e = total_first x (split_where p s) (length s) e

no_alts : total (alt_fields []) ≡ 0
unfolding alt_fields total
no_alts = refl

total_fields : (s : List ℕ) → total (fields_of comma s) ≡ suc (length s)
unfolding fields_of
total_fields = total_split (λ x. eqb x comma)

total_alts : (alts : List ℕ) → total (alt_fields alts) - 1 ≤ length alts
total_alts [] = omega (arith, no_alts)
total_alts (b ∷ s) = omega (arith, ap total (some_byte b s), total_fields (b ∷ s))

total_filter : (f : ℕ → List ℕ) (p : ℕ → Bool) (l : List ℕ) → total (map f (filter_by p l)) ≤ total (map f l)
unfolding total filter_by
total_filter f p [] = omega arith
total_filter f p (x ∷ l) = go (p x) (total_filter f p l)
  where
    go : (b : Bool) → total (map f (filter_by p l)) ≤ total (map f l)
        → total (map f (cond b (x ∷ filter_by p l) (filter_by p l))) ≤ suc (length (f x) + total (map f l))
    go true h = omega arith
    go false h = omega arith

-- all fields, by their numbers
numbered : (fs : List (List ℕ)) (k n : ℕ) → length fs ≡ k + n → map (λ a. get_or fs (a - 1) []) (numbers_from (suc k) n) ≡ drop k fs
unfolding numbers_from
numbered fs k zero e = let past : length fs ≤ k = omega arith in sym (drop_of_length-le fs past)
numbered fs k (suc n) e =
    let same : suc k - 1 ≡ k = omega arith in
    let here : k < length fs = omega arith in
    rw (drop-cons fs k [] here, numbered fs (suc k) n (omega arith), same)

-- some of the ALTs are no longer than all
pub alts_length : (alts : List ℕ) (p : ℕ → Bool) → length (alts_with alts (filter_by p (numbers_from 1 (length (alt_fields alts))))) ≤ length alts
unfolding alts_with alt_with
alts_length alts p =
    let fs = alt_fields alts in
    let some = total_filter (λ a. get_or fs (a - 1) []) p (numbers_from 1 (length fs)) in
    let all = ap total (numbered fs 0 (length fs) (omega arith)) in
    omega (arith, joined_length comma (map (λ a. get_or fs (a - 1) []) (filter_by p (numbers_from 1 (length fs)))), total_alts alts)
