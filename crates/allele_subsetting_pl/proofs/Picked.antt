-- The values picked for the genotypes of the alleles that are left.
-- Assumes nothing.
use Prim.Native.Nat.{◌<◌, ◌≤◌, max, min, ℕ}
use lib.Ieee.{Float}
use lib.ListN.{get_or, get_elem?, length, length-map}
use mathlib.Core.List.{List, map}
use mathlib.Core.Option
use mathlib.Core.Path.{◌∙◌, ◌≡◌, refl, sym}
use native.Mathlib.Omega.{arith}
use Rattle.allele_subsetting_pl.specs.KeepLists.{absent_likelihood}
use Rattle.definitions.specs.AlleleSubset.{less_greatest}
use Rattle.definitions.specs.Alleles.{genotype_count}
use Rattle.definitions.specs.Genotypes.{AllelePair, at_mapped_pairs, genotype_index_any, genotype_pairs}
use Rattle.diploid_pairs.proofs.Places.{pair_at_place, pair_there, same_pair}
use Rattle.genotype_values.proofs.Mapped.{count_is, no_pair, product_bound}
use Rattle.genotype_values.specs.Values.{mapped_place}
use Rattle.laws.proofs.Every.{Every, also, every_at, every_map, every_of_map, nothing}
use Rattle.laws.proofs.Genotypes.{genotype_pairs_at_lem, genotype_pairs_below, genotype_pairs_length}
use Rattle.laws.proofs.Members.{at_below, below_at, get_d_some}

-- the value for a pair of the alleles that are left
abbrev pub picked_at : List ℕ → List Float → AllelePair → Float
picked_at keep gl p = get_or gl (mapped_place keep p) absent_likelihood

pub by_pairs : (keep : List ℕ) (gl : List Float) → map (picked_at keep gl) (genotype_pairs (length keep)) ≡ at_mapped_pairs absent_likelihood keep gl
unfolding at_mapped_pairs mapped_place
by_pairs keep gl = refl

pub picked_length : {A : Type 0} (absent : A) (keep : List ℕ) (values : List A) → length (at_mapped_pairs absent keep values) ≡ genotype_count (length keep)
unfolding at_mapped_pairs
picked_length absent keep values = length-map (genotype_pairs (length keep)) _ ∙ genotype_pairs_length (length keep)

pub few_genotypes : (n : ℕ) → n ≤ 16 → genotype_count n ≤ 136
few_genotypes n h = omega (arith, count_is n, product_bound n h)

-- at a place of n alleles, the value of the pair there
pub picked_there : (f : AllelePair → Float) (n place : ℕ) → n ≤ 16 → place < genotype_count n
    → Option.get_or (Option.map f (get_elem? (genotype_pairs 16) place)) absent_likelihood ≡ f (get_or (genotype_pairs n) place no_pair)
picked_there f n place l h =
    let there = pair_there n (pair_at_place n place h) in
    rw (← same_pair n 16 place l h, there, get_d_some (genotype_pairs n) place no_pair there)

-- a place of n alleles
index_below : (n a b : ℕ) → a < n → b < n → genotype_index_any a b < genotype_count n
unfolding genotype_index_any
index_below n a b h k =
    let below : max a b < n = omega arith in
    let ordered : min a b ≤ max a b = omega arith in
    rw genotype_pairs_length at (below_at (genotype_pairs n) _ (genotype_pairs_at_lem n (min a b) (max a b) ordered below))

module _ {A : Type 0} where
  pub get_d_any : (l : List A) (k : ℕ) (d e : A) → k < length l → get_or l k d ≡ get_or l k e
  get_d_any l k d e h = let x = at_below l k h in get_d_some l k d x.1 ∙ sym (get_d_some l k e x.1)

  map_every : {B : Type 0} {f g : B → A} {l : List B} → Every (λ x. f x ≡ g x) l → map f l ≡ map g l
  map_every nothing = refl
  map_every (also h hs) = rw (h, map_every hs)

  -- where each number is an allele's, every place that is picked is there
  pub picked_any : (d e : A) (n : ℕ) (keep : List ℕ) (values : List A) → length values ≡ genotype_count n → Every (λ a. a < n) keep
      → at_mapped_pairs d keep values ≡ at_mapped_pairs e keep values
  unfolding at_mapped_pairs
  picked_any d e n keep values long below =
      map_every
      (every_map
      (λ p b. get_d_any values _ d e
      (rw long (index_below n _ _ (every_at p.low 0 (omega arith) below) (every_at p.high 0 b.below below))))
      (genotype_pairs_below (length keep)))

  -- and what holds of each value holds of each that is picked
  pub picked_every : {P : A → Type 0} (d : A) (n : ℕ) (keep : List ℕ) {values : List A} → length values ≡ genotype_count n → Every (λ a. a < n) keep
      → Every P values → Every P (at_mapped_pairs d keep values)
  unfolding at_mapped_pairs
  picked_every d n keep long below each =
      every_of_map _
      (every_map
      (λ p b. every_at _ d
      (rw long (index_below n _ _ (every_at p.low 0 (omega arith) below) (every_at p.high 0 b.below below))) each)
      (genotype_pairs_below (length keep)))

pub less_length : (values : List Float) → length (less_greatest values) ≡ length values
unfolding less_greatest
less_length values = length-map values _
