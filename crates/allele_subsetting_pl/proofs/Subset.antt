-- What `subset_log10_genotype_likelihoods` answers, by cases.
-- Assumes nothing.
use Prim.Native.Nat.{◌<◌, ◌≤◌, ℕ}
use lib.Dec.{T}
use lib.Ieee.{Float, nan}
use lib.ListN.{length}
use lib.Seq.{sets}
use Rattle.std.specs.Prelude.{Err, Ok, Result}
use mathlib.Core.Bool.{and-false, false, true}
use mathlib.Core.List.{List}
use mathlib.Core.Path.{◌∙◌, ◌≡◌, ap, refl, sym}
use native.Mathlib.Omega.{arith}
use Rattle.allele_subsetting_pl.proofs.Fitting.{Fitting, fitting}
use Rattle.allele_subsetting_pl.proofs.Picked.{less_length, picked_any, picked_every, picked_length}
use Rattle.allele_subsetting_pl.specs.KeepLists.{absent_likelihood}
use Rattle.answers.proofs.Answers.{answered_refused, answered_written, is_within, not_within}
use Rattle.answers.specs.Answered.{Answered}
use Rattle.answers.specs.declared.Refusal.{Refusal}
use Rattle.answers.specs.declared.Refusal.TheVariants as refusal
use Rattle.definitions.specs.AlleleSubset.{allele_count_fits, less_greatest, likelihood_subset, subset_fits, subset_likelihoods}
use Rattle.definitions.specs.Alleles.{genotype_count}
use Rattle.definitions.specs.Checked.{accepted, within}
use Rattle.definitions.specs.Genotypes.{at_mapped_pairs}
use Rattle.kv_write.proofs.Laying.{sets_front}
use Rattle.laws.proofs.Checked.{accepted_same, after_required, not_required, required}
use Rattle.laws.proofs.Every.{Every}
use Rattle.laws.proofs.Tests.{both, both_of}
use Rattle.likelihoods.proofs.NoneAbove.{none_above_lem}
use Rattle.likelihoods.proofs.Written.{NotAbove, written_none_above}
use Rattle.likelihoods.specs.Written.{count_of, none_above}

module _ (gl : List Float) (n : ℕ) (keep : List ℕ) where
  pub subset_length : length (subset_likelihoods keep gl) ≡ genotype_count (length keep)
  unfolding subset_likelihoods
  subset_length = less_length (at_mapped_pairs nan keep gl) ∙ picked_length nan keep gl

  -- what the code picks, with another value for a place that is not there
  pub subset_picked : Fitting gl n keep → less_greatest (at_mapped_pairs absent_likelihood keep gl) ≡ subset_likelihoods keep gl
  unfolding subset_likelihoods
  subset_picked f = ap less_greatest (picked_any absent_likelihood nan n keep gl f.count f.alleles)

  -- none is above 0
  pub likelihoods_not_above : Fitting gl n keep → Every NotAbove (subset_likelihoods keep gl)
  unfolding subset_likelihoods
  likelihoods_not_above f = none_above_lem (at_mapped_pairs nan keep gl) (picked_every nan n keep f.count f.alleles f.values)

  pub subset_not_above : (room : ℕ) {values : List Float} → likelihood_subset gl n keep room ≡ accepted values → Every NotAbove values
  unfolding likelihood_subset within
  subset_not_above room e =
      after_required _ _ _ e λ t e. after_required _ _ _ e λ _ e.
      rw (← accepted_same e) (likelihoods_not_above (fitting gl n keep (both_of (allele_count_fits n) _ t).1))

  -- and so none of the values that a call wrote
  pub with_none_above : {out out' : List Float} {r : Result ℕ Refusal} → Answered (likelihood_subset gl n keep (length out)) out out' r
      → Answered (likelihood_subset gl n keep (length out)) out out' r × (none_above (count_of r) out' ≡ true)
  with_none_above {out = out} {r = r} a = (a, written_none_above r a (λ list e. subset_not_above (length out) e))

  module _ {out : List Float} where
    pub count_refused : allele_count_fits n ≡ false → Answered (likelihood_subset gl n keep (length out)) out out (Err refusal.Subset)
    unfolding likelihood_subset
    count_refused h = answered_refused (not_required 15 _ _ (simp h)) refl

    pub subset_refused : subset_fits gl n keep ≡ false → Answered (likelihood_subset gl n keep (length out)) out out (Err refusal.Subset)
    unfolding likelihood_subset
    subset_refused h = answered_refused (not_required 15 _ _ (simp (h, and-false))) refl

    module _ (allowed : allele_count_fits n ≡ true) (fits : subset_fits gl n keep ≡ true) {count : ℕ} (size : count ≡ genotype_count (length keep)) where
      pub subset_long : length out < count → Answered (likelihood_subset gl n keep (length out)) out out (Err refusal.Output)
      unfolding likelihood_subset
      subset_long h =
          answered_refused
          (required 15 _ _ (both allowed fits) (not_within (subset_likelihoods keep gl) (omega (arith, subset_length)))) refl

      pub subset_written : {out' : List Float} → count ≤ length out → out' ≡ sets out 0 (less_greatest (at_mapped_pairs absent_likelihood keep gl))
          → Answered (likelihood_subset gl n keep (length out)) out out' (Ok count)
      unfolding likelihood_subset
      subset_written h e =
          let room : length (subset_likelihoods keep gl) ≤ length out = omega (arith, subset_length) in
          answered_written (required 15 _ _ (both allowed fits) (is_within (subset_likelihoods keep gl) room)) (size ∙ sym subset_length)
          (e ∙ ap (sets out 0) (subset_picked (fitting gl n keep fits)) ∙ sets_front out (subset_likelihoods keep gl) room)
