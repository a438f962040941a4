-- The search for a marker's name in the table.
use Prim.Native.Nat.{◌+◌, ◌-◌, ◌<◌, ◌≤◌, suc, ℕ}
use lib.ListN.{length, length-map}
use mathlib.Core.Bool.{Bool, ◌||◌, cond, false, true}
use mathlib.Core.List.{List, [], ◌∷◌, map, reverse}
use mathlib.Core.Option
use mathlib.Core.Option.{Option, none, some}
use mathlib.Core.Path.{◌∙◌, ◌≡◌, ap, refl, sym}
use native.Mathlib.Nat.{add-zero, sub-zero, zero-add}
use native.Mathlib.Omega.{arith}
use Rattle.std.specs.Option.{is_some}
use Rattle.std.specs.Prelude as std
use Rattle.answers.specs.Options.{option_of}
use Rattle.definitions.specs.Bytes.{same_bytes}
use Rattle.definitions.specs.Lists.{any_of, index_where, is_there, numbers_from}
use Rattle.definitions.specs.SelectionSheet.{Marker, is_named}
use Rattle.laws.proofs.Bytes.{same_is}
use Rattle.laws.proofs.Every.{index_below}
use Rattle.laws.proofs.Members.{at_unmap, index_found, length_numbers, numbers_at_lem}
use Rattle.laws.proofs.Tests.{some_same}
use Rattle.sample_names.proofs.Names.{any_reverse}
use Rattle.marker_groups.specs.Markers.{marker_at, markers_in, name_of, names_in}

-- ---- step by step

-- a number that is counted from i on
abbrev pub counted_from : ℕ → Option ℕ → Option ℕ
counted_from i none = none
counted_from i (some k) = some (i + k)

module _ (s rows : List ℕ) (count : ℕ) (n : List ℕ) where
  -- the first marker with the name, and the first from i on
  abbrev pub found : Option ℕ
  found = index_where (same_bytes n) (names_in s rows count)

  abbrev pub found_from : ℕ → Option ℕ
  found_from i = counted_from i (index_where (same_bytes n) (map (name_of s rows) (numbers_from i (count - i))))

  pub found_start : found ≡ found_from 0
  unfolding names_in
  found_start = rw (sub-zero count) (go (index_where (same_bytes n) (map (name_of s rows) (numbers_from 0 count))))
    where
      go : (o : Option ℕ) → o ≡ counted_from 0 o
      go none = refl
      go (some k) = rw (zero-add k)

  module _ (i : ℕ) where
    module _ (h : i < count) where
      pub found_here : same_bytes n (name_of s rows i) ≡ true → found_from i ≡ some i
      unfolding index_where numbers_from
      found_here e = let m : count - i ≡ suc (count - (i + 1)) = omega arith in rw (m, e, add-zero i)

      pub found_next : same_bytes n (name_of s rows i) ≡ false → found_from i ≡ found_from (i + 1)
      unfolding index_where numbers_from
      found_next e =
          let m : count - i ≡ suc (count - (i + 1)) = omega arith in
          let k : suc i ≡ i + 1 = omega arith in
          rw (m, e, k) (go (index_where (same_bytes n) (map (name_of s rows) (numbers_from (i + 1) (count - (i + 1))))))
        where
          go : (o : Option ℕ) → counted_from i (Option.map suc o) ≡ counted_from (i + 1) o
          go none = refl
          go (some j) = ap {B = Option ℕ} some (omega arith)

    pub found_end : count ≤ i → found_from i ≡ none
    unfolding index_where numbers_from
    found_end e = let m : count - i ≡ 0 = omega arith in rw m

-- ---- what was found

-- an index is found if some element passes
there_any : {A : Type 0} (p : A → Bool) (l : List A) → is_there (index_where p l) ≡ any_of p l
unfolding index_where any_of is_there
there_any p [] = refl
there_any p (x ∷ l) = go (p x) (index_where p l) (there_any p l)
  where
    go : (b : Bool) (o : Option ℕ) → is_there o ≡ any_of p l → is_there (cond b (some 0) (Option.map suc o)) ≡ (b || any_of p l)
    go true o e = refl
    go false none e = e
    go false (some k) e = e

any_map : {A B : Type 0} (f : A → B) (p : B → Bool) (l : List A) → any_of p (map f l) ≡ any_of (λ a. p (f a)) l
unfolding any_of
any_map f p [] = refl
any_map f p (x ∷ l) = rw (any_map f p l)

module _ (s rows : List ℕ) (count : ℕ) (n : List ℕ) where
  pub found_below : (k : ℕ) → found s rows count n ≡ some k → k < count
  unfolding names_in
  found_below k e =
      let few : k < length (names_in s rows count) = rw e at (index_below (same_bytes n) (names_in s rows count)) in
      let all : length (names_in s rows count) ≡ count = length-map (numbers_from 0 count) (name_of s rows) ∙ length_numbers 0 count in
      omega arith

  pub found_name : (k : ℕ) → found s rows count n ≡ some k → name_of s rows k ≡ n
  unfolding names_in
  found_name k e =
      let h = found_below k e in
      let (a, at, same) = index_found (same_bytes n) (names_in s rows count) e in
      let (x, at_x, is) = at_unmap (name_of s rows) (numbers_from 0 count) k at in
      let here : x ≡ k = some_same (sym at_x ∙ numbers_at_lem 0 count k h) ∙ zero-add k in
      sym (same_is n a same ∙ is ∙ ap (name_of s rows) here)

  pub found_any : (k : ℕ) → found s rows count n ≡ some k → any_of (same_bytes n) (names_in s rows count) ≡ true
  unfolding is_there
  found_any k e = sym (there_any (same_bytes n) (names_in s rows count)) ∙ ap is_there e

  pub found_none : found s rows count n ≡ none → any_of (same_bytes n) (names_in s rows count) ≡ false
  unfolding is_there
  found_none e = sym (there_any (same_bytes n) (names_in s rows count)) ∙ ap is_there e

  -- whether one was found
  pub some_found : (r : std.Option ℕ) {b : Bool} → option_of r ≡ found s rows count n → b ≡ is_some r → b ≡ any_of (same_bytes n) (names_in s rows count)
  some_found (std.Some k) e h = h ∙ sym (found_any k (sym e))
  some_found std.None e h = h ∙ sym (found_none (sym e))

-- as the definitions have it, the nearest marker first
pub is_named_lem : (s rows : List ℕ) (count : ℕ) (n : List ℕ) → is_named (reverse (markers_in s rows count)) n ≡ any_of (same_bytes n) (names_in s rows count)
unfolding is_named markers_in names_in marker_at
is_named_lem s rows count n =
    any_reverse (λ (m : Marker). same_bytes n m.marker) (markers_in s rows count)
    ∙ any_map (marker_at s rows) (λ (m : Marker). same_bytes n m.marker) (numbers_from 0 count)
    ∙ sym (any_map (name_of s rows) (same_bytes n) (numbers_from 0 count))
