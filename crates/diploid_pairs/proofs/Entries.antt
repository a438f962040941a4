-- A test that passes at every entry of a table passes at each one that is read; so each entry of the table of pairs is the pair of its place.
-- Assumes nothing.
use Prim.Native.Nat.{◌+◌, ◌<◌, suc, zero, ℕ}
use borrow.Author.Tests.{eqb-true, leb-true, ltb-true}
use lib.ListN.{get_or, get_elem?, length}
use mathlib.Core.Bool.{Bool, true}
use mathlib.Core.List.{List, [], ◌∷◌}
use mathlib.Core.Option.{some}
use mathlib.Core.Path.{◌≡◌}
use native.Mathlib.Nat.{add-suc, add-zero, le_of_suc-le-suc, not-suc-le-zero, suc-add, zero-add}
use Rattle.definitions.specs.Genotypes.{genotype_pairs}
use Rattle.laws.proofs.Tests.{all_three, both_of}
use Rattle.diploid_pairs.specs.Pairs.{in_place, passes_from}
use Rattle.diploid_pairs.specs.declared.AllelePair.{AllelePair}
use Rattle.diploid_pairs.proofs.Places.{pair_there}

module _ {A : Type 0} (test : ℕ → A → Bool) (d : A) where
  passes_from_lem : (i : ℕ) (xs : List A) → passes_from i test xs ≡ true → (k : ℕ) → k < length xs → test (i + k) (get_or xs k d) ≡ true
  unfolding passes_from
  passes_from_lem i [] t k h = absurd (not-suc-le-zero h)
  passes_from_lem i (x ∷ xs) t zero h = rw (add-zero i) (both_of (test i x) _ t).0
  passes_from_lem i (x ∷ xs) t (suc k) h = rw (add-suc i k, ← suc-add i k) (passes_from_lem (suc i) xs (both_of (test i x) _ t).1 k (le_of_suc-le-suc h))

  pub passes_at : (xs : List A) → passes_from 0 test xs ≡ true → (k : ℕ) → k < length xs → test k (get_or xs k d) ≡ true
  passes_at xs t k h = rw zero-add at (passes_from_lem 0 xs t k h)

-- an entry that passes the test of its place is the pair that stands there among the genotypes
pub entry_pair : (table : List AllelePair) (d : AllelePair) (place : ℕ) → passes_from 0 in_place table ≡ true → place < length table
    → get_elem? (genotype_pairs 16) place ≡ some (record { low = (get_or table place d).0; high = (get_or table place d).1 })
unfolding in_place
entry_pair table d place t h = go (get_or table place d) (passes_at in_place d table t place h)
  where
    go : (p : AllelePair) → in_place place p ≡ true → get_elem? (genotype_pairs 16) place ≡ some (record { low = p.0; high = p.1 })
    go p e =
        let w = all_three _ _ _ e in
        pair_there 16 (record {
          pair = record { low = p.0; high = p.1 };
          ordered = leb-true _ _ w.0;
          below = ltb-true _ _ w.1;
          index = eqb-true _ _ w.2;
        })
