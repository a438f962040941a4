-- A list of numbers that is stored in its row stays the list that it was, and so do all sites.
use Prim.Native.Nat.{◌%◌, ◌*◌, ◌+◌, ◌/◌, ◌<◌, ◌≤◌, suc, ℕ}
use borrow.Author.Tests.{eqb-true, eqb-false, le-leb, leb-true, leb-false, lt-ltb, ltb-false, ltb-true}
use lib.Dec.{eqb, leb, ltb}
use lib.ListN.{drop, get_or, length, length-map, take}
use lib.Seq.{length-sets, sets, take_at}
use mathlib.Core.Bool.{Bool, cond, false, true}
use mathlib.Core.List.{List, []}
use mathlib.Core.Logic.{◌⊎◌, inl, inr}
use mathlib.Core.Option
use mathlib.Core.Option.{Option, none, some}
use mathlib.Core.Path.{◌∙◌, ◌≡◌, ap, refl, sym}
use native.Mathlib.Nat.{add-mul-mod_self_right, add-mul-div_right, add-zero, div-eq_of_lt, mod-eq_of_lt, zero-add}
use native.Mathlib.Decide.{ℕ_discrete}
use native.Mathlib.Omega.{arith}
use Rattle.definitions.specs.Lists.{numbers_from}
use Rattle.kv_write.proofs.Laying.{sets_front}
use Rattle.laws.proofs.Members.{length_numbers}
use Rattle.laws.proofs.Tests.{both}
use Rattle.tables.proofs.NumberLists.{in_row, stored_few, stored_some}
use Rattle.tables.proofs.SameSites.{same_columns, same_numbers, same_site_by}
use Rattle.tables.proofs.Stored.{drop_sets, get_before, get_behind, get_here, map_numbers, map_same, numbers_all}
use Rattle.tables.specs.Tables.{ad_at, column, half_at, is_stored, list_columns, numbers_at, pl_at, site_at, stored_number, stored_numbers, with_numbers, word_of}

-- every number is below 2^32
abbrev pub Small : List ℕ → Type 0
Small numbers = (i : ℕ) → get_or numbers i 0 < 4294967296

-- ---- two numbers in one

low_part_lem : (a b : ℕ) → a < 4294967296 → (a + b * 4294967296) % 4294967296 ≡ a
low_part_lem a b small = add-mul-mod_self_right a b 4294967296 ∙ mod-eq_of_lt small

high_part : (a b : ℕ) → a < 4294967296 → (a + b * 4294967296) / 4294967296 ≡ b
high_part a b small = add-mul-div_right a b {z = 4294967296} (omega arith) ∙ rw (div-eq_of_lt small, zero-add)

pub first_half : (a b : ℕ) → a < 4294967296 → half_at 0 (a + b * 4294967296) ≡ a
unfolding half_at
first_half a b small = low_part_lem a b small

pub second_half : (a b : ℕ) → a < 4294967296 → half_at 1 (a + b * 4294967296) ≡ b
unfolding half_at
second_half a b small = high_part a b small

half_of_word : (numbers : List ℕ) (i : ℕ) → Small numbers → half_at i (word_of numbers (i / 2)) ≡ get_or numbers i 0
unfolding half_at word_of
half_of_word numbers i small = go (eqb (i % 2) 0) refl
  where
    go : (b : Bool) → eqb (i % 2) 0 ≡ b
        → cond b ((get_or numbers (2 * (i / 2)) 0 + get_or numbers (2 * (i / 2) + 1) 0 * 4294967296) % 4294967296)
        ((get_or numbers (2 * (i / 2)) 0 + get_or numbers (2 * (i / 2) + 1) 0 * 4294967296) / 4294967296)
        ≡ get_or numbers i 0
    go true e =
        let even : i % 2 ≡ 0 = eqb-true _ _ e in
        let place : 2 * (i / 2) ≡ i = omega arith in
        low_part_lem (get_or numbers (2 * (i / 2)) 0) (get_or numbers (2 * (i / 2) + 1) 0) (small (2 * (i / 2))) ∙ rw place
    go false e =
        let odd : (i % 2 ≡ 0 → ⊥) = eqb-false _ _ e in
        let place : 2 * (i / 2) + 1 ≡ i = omega arith in
        high_part (get_or numbers (2 * (i / 2)) 0) (get_or numbers (2 * (i / 2) + 1) 0) (small (2 * (i / 2))) ∙ rw place

-- ---- the columns

columns_length : (words : ℕ) (numbers : List ℕ) → length (list_columns words numbers) ≡ 1 + words
unfolding list_columns
columns_length words numbers = omega (arith, length-map (numbers_from 0 words) (word_of numbers), length_numbers 0 words)

module _ (s rows : List ℕ) (site k words : ℕ) (numbers : List ℕ) (room : site * 22 + k + 1 + words ≤ length rows) where
  abbrev listed : List ℕ
  listed = sets rows (site * 22 + k) (list_columns words numbers)

  count_here : column k listed site ≡ length numbers
  unfolding column list_columns
  count_here =
      let n = columns_length words numbers in
      rw (add-zero (site * 22 + k)) at (get_here (list_columns words numbers) rows (site * 22 + k) 0 (omega arith) (omega arith))

  word_here : (j : ℕ) → j < words → column (k + 1 + j) listed site ≡ word_of numbers j
  unfolding column
  word_here j h =
      let n = columns_length words numbers in
      let there : site * 22 + (k + 1 + j) ≡ site * 22 + k + suc j = omega arith in
      rw there (get_here (list_columns words numbers) rows (site * 22 + k) (suc j) (omega arith) (omega arith) ∙ behind)
    where
      behind : get_or (list_columns words numbers) (suc j) 0 ≡ word_of numbers j
      behind = unfold list_columns in (map_numbers (word_of numbers) 0 0 words j h ∙ rw zero-add)

  -- all others stay as they were
  column_other : (j i : ℕ) → (i * 22 + j < site * 22 + k) ⊎ (site * 22 + k + 1 + words ≤ i * 22 + j) → column j listed i ≡ column j rows i
  unfolding column
  column_other j i (inl h) = get_before (list_columns words numbers) rows (site * 22 + k) (i * 22 + j) h
  column_other j i (inr h) =
      let n = columns_length words numbers in get_behind (list_columns words numbers) rows (site * 22 + k) (i * 22 + j) (omega arith)

  stored_is : Small numbers → 0 < length numbers → length numbers ≤ 2 * words → numbers_at k (2 * words) s listed site ≡ some numbers
  stored_is small more few = in_row k (2 * words) s listed site all_stored ∙ ap {B = Option (List ℕ)} some same_list
    where
      all_stored : is_stored (2 * words) (column k listed site) ≡ true
      all_stored = rw count_here (unfold is_stored in both (lt-ltb 0 (length numbers) more) (le-leb (length numbers) (2 * words) few))

      one : (i : ℕ) → i < 0 + length numbers → stored_number k listed site i ≡ get_or numbers i 0
      one i h = unfold stored_number in (rw (word_here (i / 2) (omega arith)) (half_of_word numbers i small))

      same_list : stored_numbers k listed site ≡ numbers
      same_list = unfold stored_numbers in (rw count_here (map_same (stored_number k listed site) (λ i. get_or numbers i 0) 0 (length numbers) one ∙ numbers_all numbers))

-- ---- the table

-- the numbers of a list, none if it is missing, stand at the front of a slice
pub record AtFront (o : Option (List ℕ)) (numbers : List ℕ) (count : ℕ) : Type 0 where
  pub before : List ℕ
  pub laid : numbers ≡ sets before 0 (Option.get_or o [])
  pub count_is : count ≡ length (Option.get_or o [])
  pub small : Small (Option.get_or o [])

front_numbers : {o : Option (List ℕ)} {numbers : List ℕ} {count : ℕ} → AtFront o numbers count → count ≤ length numbers → take count numbers ≡ Option.get_or o []
front_numbers {o} {numbers} {count} f few =
    let ns = Option.get_or o [] in
    let n = length-sets f.before 0 ns in
    let m = ap length f.laid in
    let fits : length ns ≤ length f.before = omega (arith, f.count_is) in
    rw (f.laid, sets_front f.before ns fits) (take_at ns (drop (length ns) f.before) count (sym f.count_is))

some_list : (o : Option (List ℕ)) → 0 < length (Option.get_or o []) → o ≡ some (Option.get_or o [])
some_list none h = absurd (omega arith)
some_list (some ns) h = refl

-- the table says the same of every site, and behind the rows it is as it was
pub record SameRows (s rows after : List ℕ) (behind : ℕ) : Type 0 where
  pub long : length after ≡ length rows
  pub columns : (k i : ℕ) → k < 13 → column k after i ≡ column k rows i
  pub sites : (i : ℕ) → site_at s after i ≡ site_at s rows i
  pub rest : drop behind after ≡ drop behind rows

module _ (s rows : List ℕ) (site k words : ℕ) (numbers : List ℕ) (count : ℕ) (room : site * 22 + 22 ≤ length rows) (inside : k + 1 + words ≤ 22)
    (long : length numbers ≡ 2 * words) (front : AtFront (numbers_at k (2 * words) s rows site) numbers count) where
  abbrev stored : List ℕ
  stored = with_numbers (site * 22 + k) words numbers count rows

  -- by whether they are stored
  module _ (P : List ℕ → Type 0) (as_it_was : P rows)
      (with-list : is_stored (length numbers) count ≡ true → P (sets rows (site * 22 + k) (list_columns words (take count numbers)))) where
    either : P stored
    unfolding with_numbers
    either = go (is_stored (length numbers) count) refl
      where
        go : (b : Bool) → is_stored (length numbers) count ≡ b → P (cond b (sets rows (site * 22 + k) (list_columns words (take count numbers))) rows)
        go true e = with-list e
        go false e = as_it_was

  same_list : numbers_at k (2 * words) s stored site ≡ numbers_at k (2 * words) s rows site
  same_list = either (λ l. numbers_at k (2 * words) s l site ≡ numbers_at k (2 * words) s rows site) refl go
    where
      ns : List ℕ
      ns = Option.get_or (numbers_at k (2 * words) s rows site) []

      go : is_stored (length numbers) count ≡ true
          → numbers_at k (2 * words) s (sets rows (site * 22 + k) (list_columns words (take count numbers))) site ≡ numbers_at k (2 * words) s rows site
      go e =
          let few = stored_few (length numbers) count e in
          let more = stored_some (length numbers) count e in
          let n = front.count_is in
          rw (front_numbers front few)
          (stored_is s rows site k words ns (omega arith) front.small (omega arith) (omega arith) ∙ sym (some_list (numbers_at k (2 * words) s rows site) (omega arith)))

  other_column : (j i : ℕ) → (i * 22 + j < site * 22 + k) ⊎ (site * 22 + k + 1 + words ≤ i * 22 + j) → column j stored i ≡ column j rows i
  other_column j i h = either (λ l. column j l i ≡ column j rows i) refl (λ _. column_other s rows site k words (take count numbers) (omega arith) j i h)

  -- the other sites
  other_site : (i : ℕ) → (i ≡ site → ⊥) → site_at s stored i ≡ site_at s rows i
  other_site i apart = same_columns s rows stored i (λ j h. other_column j i (side j h))
    where
      side : (j : ℕ) → j < 22 → (i * 22 + j < site * 22 + k) ⊎ (site * 22 + k + 1 + words ≤ i * 22 + j)
      side j h = go (ltb i site) refl
        where
          go : (b : Bool) → ltb i site ≡ b → (i * 22 + j < site * 22 + k) ⊎ (site * 22 + k + 1 + words ≤ i * 22 + j)
          go true e = inl (omega (arith, ltb-true i site e))
          go false e = inr (omega (arith, ltb-false i site e))

  -- all of it, if the site itself is the same
  same_rows : 13 ≤ k → site_at s stored site ≡ site_at s rows site → SameRows s rows stored (site * 22 + 22)
  same_rows list own = record {
    long = either (λ l. length l ≡ length rows) refl (λ _. length-sets rows (site * 22 + k) (list_columns words (take count numbers)));
    columns = λ j i h. other_column j i (side j i h);
    sites = λ i. by_site i (ℕ_discrete i site);
    rest = either (λ l. drop (site * 22 + 22) l ≡ drop (site * 22 + 22) rows) refl
        (λ _. drop_sets (list_columns words (take count numbers)) rows (site * 22 + k) (site * 22 + 22) (omega (arith, columns_length words (take count numbers))));
  }
    where
      side : (j i : ℕ) → j < 13 → (i * 22 + j < site * 22 + k) ⊎ (site * 22 + k + 1 + words ≤ i * 22 + j)
      side j i h = go (leb i site) refl
        where
          go : (b : Bool) → leb i site ≡ b → (i * 22 + j < site * 22 + k) ⊎ (site * 22 + k + 1 + words ≤ i * 22 + j)
          go true e = inl (omega (arith, leb-true i site e))
          go false e = inr (omega (arith, leb-false i site e))

      by_site : (i : ℕ) → Dec (i ≡ site) → site_at s stored i ≡ site_at s rows i
      by_site i (yes e) = rw e own
      by_site i (no apart) = other_site i apart

-- AD, and PL, of a site
module _ (s rows : List ℕ) (site : ℕ) (numbers : List ℕ) (count : ℕ) (room : site * 22 + 22 ≤ length rows) where
  pub stored_ad : length numbers ≡ 4 → AtFront (ad_at s rows site) numbers count
      → SameRows s rows (with_numbers (site * 22 + 13) 2 numbers count rows) (site * 22 + 22)
  stored_ad long front =
      same_rows s rows site 13 2 numbers count room (omega arith) long front (omega arith)
      (same_site_by s rows _ site (λ j h. other j (inl (omega arith)))
      (same_list s rows site 13 2 numbers count room (omega arith) long front)
      (same_numbers s rows _ site 16 10 22 (omega arith) (omega arith) (λ j from h. other j (inr (omega arith)))))
    where
      other : (j : ℕ) → (site * 22 + j < site * 22 + 13) ⊎ (site * 22 + 13 + 1 + 2 ≤ site * 22 + j)
          → column j (with_numbers (site * 22 + 13) 2 numbers count rows) site ≡ column j rows site
      other j h = other_column s rows site 13 2 numbers count room (omega arith) long front j site h

  pub stored_pl : length numbers ≡ 10 → AtFront (pl_at s rows site) numbers count
      → SameRows s rows (with_numbers (site * 22 + 16) 5 numbers count rows) (site * 22 + 22)
  stored_pl long front =
      same_rows s rows site 16 5 numbers count room (omega arith) long front (omega arith)
      (same_site_by s rows _ site (λ j h. other j (inl (omega arith)))
      (same_numbers s rows _ site 13 4 16 (omega arith) (omega arith) (λ j from h. other j (inl (omega arith))))
      (same_list s rows site 16 5 numbers count room (omega arith) long front))
    where
      other : (j : ℕ) → (site * 22 + j < site * 22 + 16) ⊎ (site * 22 + 16 + 1 + 5 ≤ site * 22 + j)
          → column j (with_numbers (site * 22 + 16) 5 numbers count rows) site ≡ column j rows site
      other j h = other_column s rows site 16 5 numbers count room (omega arith) long front j site h
