-- PL and AD over the record's alleles, by its pairs: what they are and how many.
-- Assumes nothing.
use Prim.Native.Nat.{◌*◌, ◌+◌, ◌/◌, ◌≤◌, ℕ}
use lib.ListN.{get_or, length, length-map}
use mathlib.Core.List.{List, map}
use mathlib.Core.Path.{◌∙◌, ◌≡◌, ap, refl, sym}
use native.Mathlib.Nat.{mul-le-mul}
use native.Mathlib.Numerals.{add-one}
use native.Mathlib.Omega.{arith}
use Rattle.definitions.specs.Alleles.{genotype_count}
use Rattle.definitions.specs.Genotypes.{AllelePair, at_mapped_pairs, genotype_pairs, remapped_ad, remapped_pl}
use Rattle.laws.proofs.Genotypes.{genotype_pairs_length}
use Rattle.genotype_values.specs.Values.{mapped_place}

-- the record's PL at a pair
abbrev pub pl_at : List ℕ → List ℕ → AllelePair → ℕ
pl_at allele_map pl p = get_or pl (mapped_place allele_map p) 0

abbrev pub no_pair : AllelePair
no_pair = record { low = 0; high = 0 }

pub pl_by_pairs : (allele_map pl : List ℕ) → map (pl_at allele_map pl) (genotype_pairs (length allele_map)) ≡ remapped_pl allele_map pl
unfolding remapped_pl at_mapped_pairs mapped_place
pl_by_pairs allele_map pl = refl

pub pl_length : (allele_map pl : List ℕ) → length (remapped_pl allele_map pl) ≡ genotype_count (length allele_map)
pl_length allele_map pl =
    ap length (sym (pl_by_pairs allele_map pl)) ∙ length-map (genotype_pairs (length allele_map)) (pl_at allele_map pl) ∙ genotype_pairs_length (length allele_map)

pub ad_length : (allele_map ad : List ℕ) → length (remapped_ad allele_map ad) ≡ length allele_map
unfolding remapped_ad
ad_length allele_map ad = length-map allele_map _

pub count_is : (n : ℕ) → n * (n + 1) / 2 ≡ genotype_count n
unfolding genotype_count
count_is n = rw add-one

-- of at most 16 alleles
pub product_bound : (n : ℕ) → n ≤ 16 → n * (n + 1) ≤ 16 * 17
product_bound n h = mul-le-mul {n₂ = 16} {m₂ = 17} h (omega arith)
