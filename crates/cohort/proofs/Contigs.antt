-- The number of a contig: the first index at which a list has its name.
use Prim.Native.Nat.{◌+◌, ◌<◌, ◌≤◌, suc, zero, ℕ}
use borrow.Author.Tests.{eqb-false}
use lib.Dec.{eqb}
use lib.ListN.{get_or, length, length-map}
use mathlib.Core.Bool.{Bool, ◌&&◌, cond, false, true}
use mathlib.Core.List.{List, [], ◌∷◌}
use mathlib.Core.Option.{Option, map, none, some}
use mathlib.Core.Path.{◌∙◌, ◌≡◌, ap, refl}
use native.Mathlib.Decide.{ℕ_discrete, dec_lt}
use native.Mathlib.Omega.{arith}
use Rattle.definitions.specs.Bytes.{same_bytes}
use Rattle.definitions.specs.Lists.{index_where, numbers_from}
use Rattle.laws.proofs.Bytes.{same_is, same_refl}
use Rattle.laws.proofs.Members.{length_numbers}
use Rattle.laws.proofs.Tests.{both_of, clash, not_none, some_same}
use Rattle.tables.proofs.Stored.{map_numbers}
use Rattle.tables.specs.Tables.{column, part_at}
use Rattle.cohort.specs.Cohort.{ContigsNumbered, contig_names, first_on}

-- ---- index_where

module _ {A : Type 0} (p : A → Bool) (d : A) where
  pub index_none : (l : List A) → ((j : ℕ) → j < length l → p (get_or l j d) ≡ false) → index_where p l ≡ none
  unfolding index_where
  index_none [] h = refl
  index_none (x ∷ l) h = rw (h 0 (omega arith), index_none l (λ j k. h (suc j) (omega arith)))

  pub index_at : (l : List A) (i : ℕ) → i < length l → ((j : ℕ) → j < i → p (get_or l j d) ≡ false) → p (get_or l i d) ≡ true
      → index_where p l ≡ some i
  unfolding index_where
  index_at [] i k h e = absurd (omega arith)
  index_at (x ∷ l) zero k h e = rw e
  index_at (x ∷ l) (suc i) k h e = rw (h 0 (omega arith), index_at l i (omega arith) (λ j b. h (suc j) (omega arith)) e)

  -- the element there passes, and those before it do not
  pub record First (l : List A) (i : ℕ) : Type 0 where
    pub inside : i < length l
    pub passes : p (get_or l i d) ≡ true
    pub before : (j : ℕ) → j < i → p (get_or l j d) ≡ false

  pub index_first : (l : List A) (i : ℕ) → index_where p l ≡ some i → First l i
  unfolding index_where
  index_first [] i e = not_none e
  index_first (x ∷ l) i e = go (p x) refl (index_where p l) refl (index_first l) e
    where
      go : (b : Bool) → p x ≡ b → (o : Option ℕ) → index_where p l ≡ o → ((k : ℕ) → index_where p l ≡ some k → First l k)
          → cond b (some 0) (map suc o) ≡ some i → First (x ∷ l) i
      go true t o q rest e = rw (← some_same e) (record { inside = omega arith; passes = t; before = λ j h. absurd (omega arith) })
      go false t none q rest e = not_none e
      go false t (some k) q rest e =
          let r = rest k q in
          rw (← some_same e) (record { inside = omega (arith, r.inside); passes = r.passes; before = later k t r.before })
        where
          later : (k : ℕ) → p x ≡ false → ((j : ℕ) → j < k → p (get_or l j d) ≡ false) → (j : ℕ) → j < suc k → p (get_or (x ∷ l) j d) ≡ false
          later k t h zero b = t
          later k t h (suc j) b = h j (omega arith)

-- ---- contig_names

module _ (s rows : List ℕ) (count : ℕ) where
  pub name_at_lem : (site : ℕ) → site < count → get_or (contig_names s rows count) site [] ≡ part_at 7 8 s rows site
  unfolding contig_names
  name_at_lem site h = map_numbers (part_at 7 8 s rows) [] 0 count site h ∙ ap (part_at 7 8 s rows) (omega arith)

  pub names_length : length (contig_names s rows count) ≡ count
  unfolding contig_names
  names_length = length-map (numbers_from 0 count) (part_at 7 8 s rows) ∙ length_numbers 0 count

  -- ---- the loop

  module _ (contig : List ℕ) where
    -- no site before this one is on the contig
    pub record NoneBefore (site : ℕ) : Type 0 where
      pub none_yet : (j : ℕ) → j < site → same_bytes contig (part_at 7 8 s rows j) ≡ false

    pub none_start : NoneBefore 0
    none_start = record { none_yet = λ j h. absurd (omega arith) }

    module _ (site : ℕ) (inv : NoneBefore site) (below : site < count) where
      -- a site that is not the first on its contig has a name that was compared before
      passed : ContigsNumbered s rows count → eqb (column 1 rows site) site && same_bytes contig (part_at 7 8 s rows site) ≡ false
          → same_bytes contig (part_at 7 8 s rows site) ≡ false
      passed numbered e = go (eqb (column 1 rows site) site) refl e
        where
          own : List ℕ
          own = part_at 7 8 s rows site

          go : (b : Bool) → eqb (column 1 rows site) site ≡ b → b && same_bytes contig own ≡ false → same_bytes contig own ≡ false
          go true q e = e
          go false q e =
              let f = index_first (same_bytes own) [] (contig_names s rows count) (column 1 rows site) (numbered site below) in
              earlier (column 1 rows site) f (λ z. eqb-false _ _ q z)
            where
              earlier : (j : ℕ) → First (same_bytes own) [] (contig_names s rows count) j → (j ≡ site → ⊥) → same_bytes contig own ≡ false
              earlier j f other = at (dec_lt j site)
                where
                  at : Dec (j < site) → same_bytes contig own ≡ false
                  at (yes l) =
                      let same = same_is own _ f.passes ∙ name_at_lem j (omega (arith, l, below)) in
                      ap (same_bytes contig) same ∙ inv.none_yet j l
                  at (no l) =
                      clash (rw (name_at_lem site below) (same_refl own)) (f.before site (omega (arith, other)))

      pub none_next : ContigsNumbered s rows count → eqb (column 1 rows site) site && same_bytes contig (part_at 7 8 s rows site) ≡ false
          → NoneBefore (site + 1)
      none_next numbered e = record { none_yet = λ j h. go j h (ℕ_discrete j site) }
        where
          go : (j : ℕ) → j < site + 1 → Dec (j ≡ site) → same_bytes contig (part_at 7 8 s rows j) ≡ false
          go j h (yes q) = rw q (passed numbered e)
          go j h (no q) = inv.none_yet j (omega arith)

      pub found_here : eqb (column 1 rows site) site && same_bytes contig (part_at 7 8 s rows site) ≡ true → site ≡ first_on s rows count contig
      unfolding first_on
      found_here e = rw (index_at (same_bytes contig) [] (contig_names s rows count) site (rw names_length below)
          (λ j h. rw (name_at_lem j (omega arith)) (inv.none_yet j h)) (rw (name_at_lem site below) (both_of (eqb (column 1 rows site) site) (same_bytes contig (part_at 7 8 s rows site)) e).1))

    pub none_on : (site : ℕ) → NoneBefore site → count ≤ site → count ≡ first_on s rows count contig
    unfolding first_on
    none_on site inv h = rw (index_none (same_bytes contig) [] (contig_names s rows count)
        (λ j k. let b : j < count = omega (arith, names_length) in rw (name_at_lem j b) (inv.none_yet j (omega arith))))
