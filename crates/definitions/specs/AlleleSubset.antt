-- Log10 genotype likelihoods and AD over some of a record's alleles: the Rust's `subset_log10_genotype_likelihoods` and
-- `subset_unused_alts_after_merged_genotyping`. Row 15, and 14 last.
use Rattle.std.specs.Prelude.{◌-◌, suc, ℕ, eqb, leb, ltb, Float, pos, get_or, length, Bool, ◌&&◌, ◌||◌, cond, false}
use Rattle.std.specs.Float.{binary64, fin, nan}
use Rattle.std.specs.Float.Ieee.{le, lt, neg, sub}
use mathlib.Core.List.{List, [], ◌∷◌, foldl, map, tail}
use Rattle.definitions.specs.Alleles.{genotype_count}
use Rattle.definitions.specs.Bytes.{comma, fields_of, joined_by}
use Rattle.definitions.specs.Checked.{Checked, ◌>>=◌, ◌>>◌, accepted, require, within}
use Rattle.definitions.specs.Genotypes.{at_mapped_pairs, remapped_ad}
use Rattle.definitions.specs.Limits.{max_alleles}
use Rattle.definitions.specs.Lists.{all_of, any_of, filter_by, numbers_from}

-- the second if it is greater than the first, else the first
unfoldable pub greater : Float → Float → Float
greater x y = cond (lt x y) y x

-- the first greatest of a list that has one
unfoldable pub greatest : List Float → Float
greatest [] = nan
greatest (x ∷ xs) = foldl greater x xs

-- each less the first greatest, rounded once
unfoldable pub less_greatest : List Float → List Float
less_greatest xs = map (λ x. sub binary64 x (greatest xs)) xs

-- the likelihoods of the alleles that a list of allele numbers keeps, in its order: picked values less their first greatest
unfoldable pub subset_likelihoods : List ℕ → List Float → List Float
subset_likelihoods keep gl = less_greatest (at_mapped_pairs nan keep gl)

-- 2^31
unfoldable pub max_size : Float
max_size = fin false 1 (pos 31)

-- a value is finite and at most 2^31 in size
unfoldable pub in_range : Float → Bool
in_range x = le (neg max_size) x && le x max_size

-- Row 15: 1 to 16 alleles.
unfoldable pub allele_count_fits : ℕ → Bool
allele_count_fits n = leb 1 n && leb n max_alleles

-- Row 15, where a subset is made of n alleles: n(n+1)/2 likelihoods, each in range; at most 16 numbers to keep, each an allele's.
unfoldable pub subset_fits : List Float → ℕ → List ℕ → Bool
subset_fits gl n keep =
    eqb (length gl) (genotype_count n) && all_of in_range gl && leb (length keep) max_alleles && all_of (λ a. ltb a n) keep

-- `subset_log10_genotype_likelihoods` with this much output: the keep list as it is, with its order and repeats.
unfoldable pub likelihood_subset : List Float → ℕ → List ℕ → ℕ → Checked (List Float)
likelihood_subset gl n keep out_length = do
  require 15 (allele_count_fits n && subset_fits gl n keep)
  within out_length (subset_likelihoods keep gl)

-- ALTs as a list with commas, whatever their spelling; the empty text is none
unfoldable pub alt_fields : List ℕ → List (List ℕ)
alt_fields s = cond (eqb (length s) 0) [] (fields_of comma s)

-- REF, and the ALTs that the GT names; a number in the GT that is no allele names none
unfoldable pub assigned_alleles : ℕ → List ℕ → List ℕ
assigned_alleles n gt = filter_by (λ a. eqb a 0 || any_of (eqb a) gt) (numbers_from 0 n)

-- what is left of a record without the ALTs that no GT names
pub record UnusedAltSubset : Type 0 where
  pub alts : List ℕ
  pub likelihoods : List Float
  pub ad : List ℕ

-- The subset of a record, by its ALTs, to the alleles of a keep list that begins with REF. Row 15, also for AD without a kept entry.
unfoldable pub subset_to : List ℕ → List (List ℕ) → List Float → List ℕ → Checked UnusedAltSubset
subset_to keep alts gl ad = do
  require 15 (subset_fits gl (suc (length alts)) keep && all_of (λ a. ltb a (length ad)) keep)
  accepted (record {
    alts = joined_by comma (map (λ a. get_or alts (a - 1) []) (tail keep));
    likelihoods = subset_likelihoods keep gl;
    ad = remapped_ad keep ad;
  })

-- The subset to REF and the assigned ALTs; if every ALT is assigned all is copied, and only the allele count is checked.
unfoldable pub unused_alt_subset : List ℕ → List ℕ → List Float → List ℕ → Checked UnusedAltSubset
unused_alt_subset alts gt gl ad =
    let n = suc (length (alt_fields alts)) in
    let keep = assigned_alleles n gt in do
      require 15 (allele_count_fits n)
      cond (eqb (length keep) n)
          (accepted (record { alts = alts; likelihoods = gl; ad = ad }))
          (subset_to keep (alt_fields alts) gl ad)

-- `subset_unused_alts_after_merged_genotyping` with this much output for ALTs, likelihoods and AD: 14 if one of them is too short.
unfoldable pub unused_alt_subset_within : List ℕ → List ℕ → List Float → List ℕ → ℕ → ℕ → ℕ → Checked UnusedAltSubset
unused_alt_subset_within alts gt gl ad alts_length likelihoods_length ad_length = do
  subset ← unused_alt_subset alts gt gl ad
  require 14
      (leb (length subset.alts) alts_length && leb (length subset.likelihoods) likelihoods_length
      && leb (length subset.ad) ad_length)
  accepted subset
