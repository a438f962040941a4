-- GT of a sample's data is a pair of the least PL (`gt_of_least_pl`), and so GTs over PLs with one least are alike (`same_gt`).
use Prim.Native.Nat.{◌<◌, ℕ}
use borrow.Author.Tests.{eq-eqb, eqb-true, lt-ltb}
use lib.Dec.{eqb}
use lib.ListN.{get_or, get_elem?, length, length-map}
use mathlib.Core.List.{List}
use mathlib.Core.Option
use mathlib.Core.Option.{Option, map, none, some}
use mathlib.Core.Path.{◌∙◌, ◌≡◌, ap, refl, subst, sym}
use native.Mathlib.Omega.{arith}
use Rattle.definitions.specs.Alleles.{Allele, RefAlts, genotype_count}
use Rattle.definitions.specs.Cohort.{Site}
use Rattle.definitions.specs.Genotypes.{AllelePair, at_mapped_pairs, best_genotype, data_of_sample, genotype_index, genotype_pairs, least, missing_data, remapped_pl, site_data}
use Rattle.definitions.specs.Lists.{first_where}
use Rattle.definitions.specs.MergedAlleles.{per_sample_map, remapped_alleles}
use Rattle.diploid_pairs.proofs.Places.{PairAtPlace, pair_at_place, pair_there}
use Rattle.laws.proofs.Genotypes.{genotype_count_some, genotype_pairs_length, least_in}
use Rattle.laws.proofs.Members.{below_at, get_d_some, index_found, index_there, some_member}
use Rattle.laws.proofs.Tests.{not_none, some_same}
use Rattle.demands.specs.Preserved.{SamePl}
use Rattle.demands.specs.SameRecords.{SameGt, pl_at}
use Rattle.demands.proofs.CoveringSites.{data_none, data_some}

-- GT is missing where PL is; else the PL at GT is the least
abbrev pub GtOfLeast : Option AllelePair → Option (List ℕ) → Type 0
GtOfLeast gt pl = map (pl_at pl) gt ≡ map (λ (ps : List ℕ). some (least ps)) pl

abbrev no_pair : AllelePair
no_pair = record { low = 0; high = 0 }

-- the pair of a place, as `best_genotype` finds it
abbrev pair_or : ℕ → Option ℕ → AllelePair
pair_or n o = get_or (genotype_pairs n) (Option.get_or o 0) no_pair

-- the PL at the pair of a place
at_pair : (n place : ℕ) (pl : List ℕ) {x : ℕ} (p : PairAtPlace n place) → get_elem? pl place ≡ some x
    → get_elem? pl (genotype_index (pair_or n (some place)).low (pair_or n (some place)).high) ≡ some x
at_pair n place pl p at = rw (get_d_some (genotype_pairs n) place no_pair (pair_there n p), p.index) at

-- the PL at the best genotype
best_least : (n : ℕ) (pl : List ℕ) → 0 < n → length pl ≡ genotype_count n
    → get_elem? pl (genotype_index (best_genotype n pl).low (best_genotype n pl).high) ≡ some (least pl)
unfolding best_genotype
best_least n pl some-allele count =
    let there = genotype_count_some n some-allele in
    let (y, m) = some_member pl (lt-ltb 0 (length pl) (omega arith)) in
    let (place, first) = index_there (eqb (least pl)) pl (least_in pl m) (eq-eqb (least pl) (least pl) refl) in
    let (x, at, same) = index_found (eqb (least pl)) pl first in
    let below : place < genotype_count n = subst (λ (k : ℕ). place < k) count (below_at pl place at) in
    rw first (at_pair n place pl (pair_at_place n place below) (at ∙ ap {B = Option ℕ} some (sym (eqb-true _ _ same))))

-- what a covering site says
site_least : (ref : List ℕ) (alts : List Allele) (q : ℕ) (s : Site)
    → GtOfLeast (site_data ref alts q s).gt (site_data ref alts q s).pl
unfolding site_data pl_at per_sample_map remapped_pl at_mapped_pairs
site_least ref alts q s = go s.pl
  where
    own : List ℕ
    own = per_sample_map (remapped_alleles ref q s) alts

    go : (o : Option (List ℕ))
        → GtOfLeast (map (best_genotype (length own)) (map (remapped_pl own) o)) (map (remapped_pl own) o)
    go none = refl
    go (some pl) =
        let count = length-map (genotype_pairs (length own)) _ ∙ genotype_pairs_length (length own) in
        ap {B = Option (Option ℕ)} some (best_least (length own) (remapped_pl own pl) (omega arith) count)

pub gt_of_least_pl : (ref : List ℕ) (alts : List Allele) (q : ℕ) (covering : List Site) (sample : ℕ)
    → GtOfLeast (data_of_sample ref alts q covering sample).gt (data_of_sample ref alts q covering sample).pl
unfolding missing_data
gt_of_least_pl ref alts q covering sample = go (first_where (λ s. eqb s.sample sample) covering) refl
  where
    go : (o : Option Site) → first_where (λ s. eqb s.sample sample) covering ≡ o
        → GtOfLeast (data_of_sample ref alts q covering sample).gt (data_of_sample ref alts q covering sample).pl
    go none e = rw (data_none ref alts q covering sample e) refl
    go (some s) e = rw (data_some ref alts q covering sample e) (site_least ref alts q s)

pub same_gt : (old new : RefAlts) (g h : Option AllelePair) (ps qs : Option (List ℕ)) → GtOfLeast g ps → GtOfLeast h qs
    → SamePl old new ps qs → SameGt g ps h qs
unfolding SameGt SamePl
same_gt old new none none ps qs a b same = tt
same_gt old new none (some h) none none a b same = not_none (sym b)
same_gt old new none (some h) none (some qs) a b same = absurd same
same_gt old new none (some h) (some ps) qs a b same = not_none a
same_gt old new (some g) none ps (some qs) a b same = not_none b
same_gt old new (some g) none none none a b same = not_none (sym a)
same_gt old new (some g) none (some ps) none a b same = absurd same
same_gt old new (some g) (some h) none qs a b same = not_none (sym a)
same_gt old new (some g) (some h) (some ps) none a b same = absurd same
same_gt old new (some g) (some h) (some ps) (some qs) a b same =
    (least ps, some_same a, some_same b ∙ ap {B = Option ℕ} some same.0)
