-- What `subset_unused_alts_after_merged_genotyping` answers, as the definitions have it, and what its three outputs hold at the end.
use Rattle.std.specs.Prelude.{◌≤◌, suc, ℕ, eqb, leb, Float, length, Bool, ◌&&◌, ◌||◌, List, ◌≡◌, Result, Ok, Err}
use Rattle.answers.specs.Answered.{checked_of}
use Rattle.answers.specs.declared.Refusal.{Refusal}
use Rattle.definitions.specs.AlleleSubset.{UnusedAltSubset, alt_fields, assigned_alleles}
use Rattle.definitions.specs.Answers.{output_after}
use Rattle.definitions.specs.Checked.{Checked, ◌>>=◌, ◌>>◌, accepted, refused, require}
use Rattle.likelihoods.specs.Written.{none_above}
use Rattle.allele_subsetting_pl.specs.declared.UnusedAlts.{UnusedAlts}

-- how many values are written to each output
unfoldable pub written_of : Checked UnusedAltSubset → Checked UnusedAlts
written_of (refused row) = refused row
written_of (accepted s) = accepted (record { alts = length s.alts; likelihoods = length s.likelihoods; ad = length s.ad })

-- one list of a subset that is accepted
unfoldable pub list_of : {A : Type 0} → (UnusedAltSubset → List A) → Checked UnusedAltSubset → Checked (List A)
list_of list subset = do
  s ← subset
  accepted (list s)

-- three outputs, at the start or at the end of a call
pub record Outputs : Type 0 where
  pub alts : List ℕ
  pub likelihoods : List Float
  pub ad : List ℕ

abbrev pub outputs : List ℕ → List Float → List ℕ → Outputs
outputs alts likelihoods ad = record { alts = alts; likelihoods = likelihoods; ad = ad }

-- the answer is that of this subset, or of the row that refuses it, and so is what each output holds at the end
pub record UnusedAltsAnswered (subset : Checked UnusedAltSubset) (before after : Outputs) (r : Result UnusedAlts Refusal) : Type 0 where
  pub answer : checked_of r ≡ written_of subset
  pub alts : after.alts ≡ output_after (list_of (λ s. s.alts) subset) before.alts
  pub likelihoods : after.likelihoods ≡ output_after (list_of (λ s. s.likelihoods) subset) before.likelihoods
  pub ad : after.ad ≡ output_after (list_of (λ s. s.ad) subset) before.ad

-- every ALT is assigned: the record is copied as it is, and no subset is made
abbrev pub every_alt_assigned : List ℕ → List ℕ → Bool
every_alt_assigned alts gt = let n = suc (length (alt_fields alts)) in eqb (length (assigned_alleles n gt)) n

-- how many likelihoods a call wrote: none if it is refused
abbrev pub likelihood_count_of : Result UnusedAlts Refusal → ℕ
likelihood_count_of (Ok written) = written.likelihoods
likelihood_count_of (Err r) = 0

-- document 01, none above 0: of the likelihoods that a call wrote, where a subset is made
abbrev pub subset_none_above : List ℕ → List ℕ → ℕ → List Float → Bool
subset_none_above alts gt n likelihoods = every_alt_assigned alts gt || none_above n likelihoods

-- row 14, last
unfoldable pub subset_within : Checked UnusedAltSubset → Outputs → Checked UnusedAltSubset
subset_within subset out = do
  s ← subset
  require 14
      (leb (length s.alts) (length out.alts) && leb (length s.likelihoods) (length out.likelihoods)
      && leb (length s.ad) (length out.ad))
  accepted s

-- a record as it is
abbrev pub whole_record : List ℕ → List Float → List ℕ → UnusedAltSubset
whole_record alts likelihoods ad = record { alts = alts; likelihoods = likelihoods; ad = ad }

-- a keep list of REF and the ALTs that some GT names, of at most 16 alleles
pub record AssignedKeep (alts : List ℕ) (alleles : ℕ) (keep : List ℕ) : Type 0 where
  pub gt : List ℕ
  pub count : alleles ≡ suc (length (alt_fields alts))
  pub few : alleles ≤ 16
  pub assigned : keep ≡ assigned_alleles alleles gt
