-- Row 15, by its parts.
-- Assumes nothing.
use Prim.Native.Nat.{◌<◌, ◌≤◌, ℕ}
use borrow.Author.Tests.{eq-eqb, eqb-true, le-leb, leb-true, lt-leb, lt-ltb, ltb-true, ne_eqb}
use lib.Dec.{leb, ltb}
use lib.Ieee.{Float}
use lib.ListN.{length}
use mathlib.Core.Bool.{and-false, false, true}
use mathlib.Core.List.{List}
use mathlib.Core.Path.{◌≡◌}
use native.Mathlib.Omega.{arith}
use Rattle.allele_subsetting_pl.specs.KeepLists.{KeepList}
use Rattle.definitions.specs.AlleleSubset.{allele_count_fits, in_range, subset_fits}
use Rattle.definitions.specs.Alleles.{genotype_count}
use Rattle.definitions.specs.Lists.{all_of}
use Rattle.laws.proofs.Every.{Every, every_map, every_passed, passes_every}
use Rattle.laws.proofs.Tests.{both_of}

pub record Fitting (gl : List Float) (n : ℕ) (keep : List ℕ) : Type 0 where
  pub count : length gl ≡ genotype_count n
  pub values : Every (λ x. in_range x ≡ true) gl
  pub few : length keep ≤ 16
  pub alleles : Every (λ a. a < n) keep

module _ (gl : List Float) (n : ℕ) (keep : List ℕ) where
  pub fitting : subset_fits gl n keep ≡ true → Fitting gl n keep
  unfolding subset_fits
  fitting h =
      let a = both_of _ _ h in
      let b = both_of _ _ a.0 in
      let d = both_of _ _ b.0 in
      record {
        count = eqb-true _ _ d.0;
        values = every_passed in_range gl d.1;
        few = leb-true _ _ b.1;
        alleles = every_map (λ x. ltb-true x n) (every_passed (λ x. ltb x n) keep a.1);
      }

  pub other_count : (length gl ≡ genotype_count n → ⊥) → subset_fits gl n keep ≡ false
  unfolding subset_fits
  other_count h = simp (ne_eqb (length gl) (genotype_count n) h)

  pub too_many : 16 < length keep → subset_fits gl n keep ≡ false
  unfolding subset_fits
  too_many h = simp (lt-leb (length keep) 16 h, and-false)

  pub out_of_range : all_of in_range gl ≡ false → subset_fits gl n keep ≡ false
  unfolding subset_fits
  out_of_range h = simp (h, and-false)

  pub only_alleles : length gl ≡ genotype_count n → length keep ≤ 16 → all_of in_range gl ≡ true → subset_fits gl n keep ≡ all_of (λ a. ltb a n) keep
  unfolding subset_fits
  only_alleles e few values = simp (eq-eqb (length gl) (genotype_count n) e, le-leb (length keep) 16 few, values)

  -- a list that fits 16 alleles at most is a keep list
  pub keep_list : Fitting gl n keep → n ≤ 16 → KeepList keep
  keep_list f h = record { few = f.few; alleles = passes_every (λ a. ltb a 16) (every_map (λ a l. lt-ltb a 16 (let z : a < 16 = omega arith in z)) f.alleles) }

pub most_alleles : (n : ℕ) → allele_count_fits n ≡ true → n ≤ 16
unfolding allele_count_fits
most_alleles n h = leb-true n 16 (both_of (leb 1 n) _ h).1
