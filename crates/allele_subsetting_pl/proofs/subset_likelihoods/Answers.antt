-- The keep list, and then the picked values, stand at the fronts of the two arrays.
use Prim.Native.Nat.{◌≤◌, ℕ}
use borrow.Author.Rules.{rules}
use lib.Ieee.{Float}
use lib.ListN.{length, take}
use lib.Seq.{sets}
use mathlib.Core.List.{List}
use mathlib.Core.Path.{◌∙◌, ◌≡◌, ap, refl, sym}
use native.Mathlib.Omega.{arith}
use Rattle.allele_subsetting_pl.proofs.Fronts.{front, front_length, front_within}
use Rattle.allele_subsetting_pl.proofs.Picked.{few_genotypes, picked_length}
use Rattle.allele_subsetting_pl.specs.KeepLists.{KeepList, absent_likelihood}
use Rattle.definitions.specs.AlleleSubset.{less_greatest}
use Rattle.definitions.specs.Alleles.{genotype_count}
use Rattle.definitions.specs.Genotypes.{at_mapped_pairs}
use Rattle.allele_subsetting_pl.proofs.subset_likelihoods.Goals as goal

module _ (keep : List ℕ) (gl : List Float) (allele_map : List ℕ) {n : ℕ} (pre : KeepList keep) (count : n ≡ genotype_count (length keep))
    (mapped : take (length keep) allele_map ≡ keep)
  where
    module _ (before : List Float) {after : List Float} (room : length before ≡ 136)
        (stored : after ≡ sets before 0 (at_mapped_pairs absent_likelihood (take (length keep) allele_map) gl))
      where
        picked-stored : after ≡ sets before 0 (at_mapped_pairs absent_likelihood keep gl)
        picked-stored = stored ∙ ap (λ k. sets before 0 (at_mapped_pairs absent_likelihood k gl)) mapped

        few-picked : length (at_mapped_pairs absent_likelihood keep gl) ≤ length before
        few-picked = omega (arith, picked_length absent_likelihood keep gl, few_genotypes (length keep) pre.few)

        as_many : n ≡ length (at_mapped_pairs absent_likelihood keep gl)
        as_many = count ∙ sym (picked_length absent_likelihood keep gl)

        picked-front : take n after ≡ at_mapped_pairs absent_likelihood keep gl
        picked-front = front (at_mapped_pairs absent_likelihood keep gl) before picked-stored few-picked as_many

        picked-long : n ≡ length (take n after)
        picked-long = front_length (at_mapped_pairs absent_likelihood keep gl) before picked-stored few-picked as_many

        picked-within : n ≤ length after
        picked-within = front_within (at_mapped_pairs absent_likelihood keep gl) before picked-stored few-picked as_many

pub slice_bounds-pick_likelihoods-end : goal.slice_bounds-pick_likelihoods-end
slice_bounds-pick_likelihoods-end c = front_length c.args.keep.now _ c.allele_map.ensures c.requires.few refl

pub pick_likelihoods-requires : goal.pick_likelihoods-requires
pick_likelihoods-requires c = omega (arith, c.requires.few, front_length c.args.keep.now _ c.allele_map.ensures c.requires.few refl)

pub slice_bounds-picked-end : goal.slice_bounds-picked-end
slice_bounds-picked-end c = picked-within c.args.keep.now c.args.gl.now _ c.requires
    c.num_genotype_likelihoods-count.ensures
    (front c.args.keep.now _ c.allele_map.ensures c.requires.few refl) _ refl c.pick_likelihoods.ensures

pub slice_bounds-scale_log_space_array_for_numerical_stability-end : goal.slice_bounds-scale_log_space_array_for_numerical_stability-end
slice_bounds-scale_log_space_array_for_numerical_stability-end c = picked-long c.args.keep.now c.args.gl.now _ c.requires
    c.num_genotype_likelihoods-count.ensures
    (front c.args.keep.now _ c.allele_map.ensures c.requires.few refl) _ refl c.pick_likelihoods.ensures

pub returns : goal.returns
returns c = c.scale_log_space_array_for_numerical_stability.ensures ∙ ap (λ v. sets c.args.out.now 0 (less_greatest v))
    (picked-front c.args.keep.now c.args.gl.now _ c.requires
    c.num_genotype_likelihoods-count.ensures
    (front c.args.keep.now _ c.allele_map.ensures c.requires.few refl) _ refl
    c.pick_likelihoods.ensures)
