-- The genotypes by place, for callers. That a pair stands at its place is `genotype_pairs_at_lem` of `laws`; here, that every place has such a pair.
-- Assumes nothing.
use Prim.Native.Nat.{◌+◌, ◌-◌, ◌<◌, ◌≤◌, suc, zero, ℕ}
use lib.ListN.{get_elem?, take}
use lib.Seq.{take_at}
use mathlib.Core.Option.{none, some}
use mathlib.Core.Path.{◌∙◌, ◌≡◌, ap, sym}
use native.Mathlib.Decide.{dec_lt}
use native.Mathlib.Omega.{arith}
use Rattle.definitions.specs.Alleles.{genotype_count}
use Rattle.definitions.specs.Genotypes.{AllelePair, genotype_index, genotype_pairs}
use Rattle.laws.proofs.Genotypes.{genotype_pairs_append, genotype_pairs_at_lem, genotype_pairs_length}
use Rattle.laws.proofs.Members.{below_at, past_at}
use Rattle.laws.proofs.Tests.{some_same}

-- a pair of n alleles, and its place
pub record PairAtPlace (n place : ℕ) : Type 0 where
  pub pair : AllelePair
  pub ordered : pair.low ≤ pair.high
  pub below : pair.high < n
  pub index : genotype_index pair.low pair.high ≡ place

-- every place has a pair: the places past the pairs of n alleles are those of the pairs whose higher allele is n
pub pair_at_place : (n place : ℕ) → place < genotype_count n → PairAtPlace n place
unfolding genotype_count genotype_index
pair_at_place zero place h = absurd (omega arith)
pair_at_place (suc n) place h = go (dec_lt place (genotype_count n)) (pair_at_place n place)
  where
    go : Dec (place < genotype_count n) → (place < genotype_count n → PairAtPlace n place) → PairAtPlace (suc n) place
    go (yes l) fewer = let p = fewer l in record { pair = p.pair; ordered = p.ordered; below = omega arith; index = p.index }
    go (no l) fewer = record { pair = record { low = place - genotype_count n; high = n }; ordered = omega arith; below = omega arith; index = omega arith }

pub pair_of_16 : (place : ℕ) → place < 136 → PairAtPlace 16 place
unfolding genotype_count
pair_of_16 = pair_at_place 16

-- the pair is the one that the list has there
pub pair_there : (n : ℕ) {place : ℕ} (p : PairAtPlace n place) → get_elem? (genotype_pairs n) place ≡ some p.pair
pair_there n p = ap (get_elem? (genotype_pairs n)) (sym p.index) ∙ genotype_pairs_at_lem n p.pair.low p.pair.high p.ordered p.below

pub there_pair : (n place : ℕ) {p : AllelePair} → get_elem? (genotype_pairs n) place ≡ some p → (q : PairAtPlace n place) × (q.pair ≡ p)
there_pair n place e =
    let q = pair_at_place n place (rw genotype_pairs_length at (below_at (genotype_pairs n) place e)) in
    (q, some_same (sym (pair_there n q) ∙ e))

-- past the places there is none
pub no_pair_lem : (n place : ℕ) → genotype_count n ≤ place → get_elem? (genotype_pairs n) place ≡ none
no_pair_lem n place h = past_at (genotype_pairs n) place (rw genotype_pairs_length h)

-- the pairs of fewer alleles stand at the same places
pub same_pair : (n m place : ℕ) → n ≤ m → place < genotype_count n → get_elem? (genotype_pairs n) place ≡ get_elem? (genotype_pairs m) place
same_pair n m place l h =
    let p = pair_at_place n place h in
    let q : PairAtPlace m place = record { pair = p.pair; ordered = p.ordered; below = omega arith; index = p.index } in
    pair_there n p ∙ sym (pair_there m q)

pub fewer_pairs : (n m : ℕ) → n ≤ m → genotype_pairs n ≡ take (genotype_count n) (genotype_pairs m)
fewer_pairs n m l =
    let e : m ≡ n + (m - n) = omega arith in
    rw (e, genotype_pairs_append n (m - n)) (sym (take_at (genotype_pairs n) _ (genotype_count n) (genotype_pairs_length n)))
