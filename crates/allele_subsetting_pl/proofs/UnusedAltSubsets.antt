-- What `subset_unused_alts_after_merged_genotyping` answers, by cases.
-- Assumes nothing.
use Prim.Native.Nat.{◌+◌, ◌<◌, ◌≤◌, suc, ℕ}
use borrow.Author.Tests.{eq-eqb, le-leb, leb-true, lt-leb, ne_eqb}
use lib.Dec.{T, leb, ltb}
use lib.Ieee.{Float}
use lib.ListN.{length}
use Rattle.std.specs.Prelude.{Err, Ok, Result}
use lib.Seq.{sets}
use mathlib.Core.Bool.{Bool, ◌&&◌, and-false, false, true}
use mathlib.Core.List.{List, tail}
use mathlib.Core.Path.{◌∙◌, ◌≡◌, ap, refl, sym}
use native.Mathlib.Omega.{arith}
use Rattle.allele_subsetting_pl.proofs.Fitting.{fitting}
use Rattle.allele_subsetting_pl.proofs.Subset.{likelihoods_not_above, subset_length, subset_picked}
use Rattle.allele_subsetting_pl.specs.KeepLists.{absent_likelihood, alt_with, alts_with}
use Rattle.allele_subsetting_pl.specs.UnusedAlts.{AssignedKeep, Outputs, UnusedAltsAnswered, every_alt_assigned, likelihood_count_of, list_of, subset_none_above, subset_within, whole_record, written_of}
use Rattle.allele_subsetting_pl.specs.declared.UnusedAlts.{UnusedAlts}
use Rattle.answers.specs.Answered.{row_of}
use Rattle.answers.specs.declared.Refusal.{Refusal}
use Rattle.definitions.specs.AlleleSubset.{UnusedAltSubset, allele_count_fits, alt_fields, assigned_alleles, less_greatest, subset_fits, subset_likelihoods, subset_to, unused_alt_subset, unused_alt_subset_within}
use Rattle.definitions.specs.Alleles.{genotype_count}
use Rattle.definitions.specs.Answers.{output_after}
use Rattle.definitions.specs.Checked.{Checked, ◌>>=◌, accepted, refused}
use Rattle.definitions.specs.Genotypes.{at_mapped_pairs, remapped_ad}
use Rattle.definitions.specs.Lists.{all_of}
use Rattle.genotype_values.proofs.Mapped.{ad_length}
use Rattle.kv_write.proofs.Laying.{sets_front}
use Rattle.kv_write.specs.Laid.{Laid}
use Rattle.laws.proofs.Checked.{accepted_same, after_required, after_then, not_refused, not_required, required, then, then_refused}
use Rattle.laws.proofs.Every.{Every}
use Rattle.laws.proofs.Tests.{all_three, both, both_of, or_left, or_right}
use Rattle.likelihoods.proofs.Written.{NotAbove, none_above_front, none_above_none}
use Rattle.likelihoods.specs.Written.{none_above}

pub answered_refused : {subset : Checked UnusedAltSubset} {out : Outputs} {r : Refusal} → subset ≡ refused (row_of r) → UnusedAltsAnswered subset out out (Err r)
unfolding written_of list_of output_after ◌>>=◌
answered_refused e = rw e (record { answer = refl; alts = refl; likelihoods = refl; ad = refl })

-- three lists that have room
pub record Room (s : UnusedAltSubset) (out : Outputs) : Type 0 where
  pub alts : length s.alts ≤ length out.alts
  pub likelihoods : length s.likelihoods ≤ length out.likelihoods
  pub ad : length s.ad ≤ length out.ad

-- and what stands in the outputs once they are stored
pub record StoredSubset (s : UnusedAltSubset) (out out' : Outputs) : Type 0 where
  pub alts : out'.alts ≡ sets out.alts 0 s.alts
  pub likelihoods : out'.likelihoods ≡ sets out.likelihoods 0 s.likelihoods
  pub ad : out'.ad ≡ sets out.ad 0 s.ad

pub answered_written : {subset : Checked UnusedAltSubset} {s : UnusedAltSubset} {out out' : Outputs} {a b d : ℕ} → subset ≡ accepted s
    → a ≡ length s.alts → b ≡ length s.likelihoods → d ≡ length s.ad → Room s out → StoredSubset s out out'
    → UnusedAltsAnswered subset out out' (Ok (record { alts = a; likelihoods = b; ad = d }))
unfolding written_of list_of output_after ◌>>=◌
answered_written {s = s} {out = out} e p q r room stored =
    rw e
    (record {
      answer = rw (p, q, r);
      alts = stored.alts ∙ sets_front out.alts s.alts room.alts;
      likelihoods = stored.likelihoods ∙ sets_front out.likelihoods s.likelihoods room.likelihoods;
      ad = stored.ad ∙ sets_front out.ad s.ad room.ad;
    })

-- ---- row 14

module _ (s : UnusedAltSubset) (out : Outputs) where
  pub without_room : leb (length s.alts) (length out.alts) && leb (length s.likelihoods) (length out.likelihoods)
      && leb (length s.ad) (length out.ad) ≡ false → {subset : Checked UnusedAltSubset} → subset ≡ accepted s → subset_within subset out ≡ refused 14
  unfolding subset_within
  without_room h e = then _ _ e (not_required 14 _ _ h)

  pub with_room_lem : leb (length s.alts) (length out.alts) && leb (length s.likelihoods) (length out.likelihoods)
      && leb (length s.ad) (length out.ad) ≡ true → {subset : Checked UnusedAltSubset} → subset ≡ accepted s → subset_within subset out ≡ accepted s
  unfolding subset_within
  with_room_lem h e = then _ _ e (required 14 _ _ h refl)

  pub room_of : leb (length s.alts) (length out.alts) && leb (length s.likelihoods) (length out.likelihoods)
      && leb (length s.ad) (length out.ad) ≡ true → Room s out
  room_of h =
      let t = all_three _ _ _ h in
      record { alts = leb-true _ _ t.0; likelihoods = leb-true _ _ t.1; ad = leb-true _ _ t.2 }

pub refused_within : {subset : Checked UnusedAltSubset} (out : Outputs) {row : ℕ} → subset ≡ refused row → subset_within subset out ≡ refused row
unfolding subset_within
refused_within out e = then_refused _ _ e

-- ---- row 15, and the subset of a keep list

module _ (alts : List ℕ) {n : ℕ} (keep : List ℕ) (gl : List Float) (ad : List ℕ) (k : AssignedKeep alts n keep) where
  -- the lists that are written
  pub subset_record : UnusedAltSubset
  subset_record = record { alts = alts_with alts (tail keep); likelihoods = subset_likelihoods keep gl; ad = remapped_ad keep ad }

  pub not_fitting : subset_fits gl n keep ≡ false → subset_to keep (alt_fields alts) gl ad ≡ refused 15
  unfolding subset_to
  not_fitting h = not_required 15 _ _ (simp (← k.count, h))

  pub without_ad : all_of (λ a. ltb a (length ad)) keep ≡ false → subset_to keep (alt_fields alts) gl ad ≡ refused 15
  unfolding subset_to
  without_ad h = not_required 15 _ _ (simp (h, and-false))

  pub subset_accepted : subset_fits gl n keep ≡ true → all_of (λ a. ltb a (length ad)) keep ≡ true → subset_to keep (alt_fields alts) gl ad ≡ accepted subset_record
  unfolding subset_to subset_record alts_with alt_with
  subset_accepted h t = required 15 _ _ (both {a = subset_fits gl (suc (length (alt_fields alts))) keep} (rw (← k.count) h) t) refl

  pub alts_stored : {out out' : List ℕ} {r : ℕ} → Laid out 0 (alts_with alts (tail keep)) out' r → out' ≡ sets out 0 subset_record.alts
  unfolding subset_record
  alts_stored l = l.laid

  pub likelihoods_stored : (out : List Float) {out' : List Float} → subset_fits gl n keep ≡ true
      → out' ≡ sets out 0 (less_greatest (at_mapped_pairs absent_likelihood keep gl)) → out' ≡ sets out 0 subset_record.likelihoods
  unfolding subset_record
  likelihoods_stored out h e = e ∙ ap (sets out 0) (subset_picked gl n keep (fitting gl n keep h))

  pub ad_stored : (out : List ℕ) {out' : List ℕ} → out' ≡ sets out 0 (remapped_ad keep ad) → out' ≡ sets out 0 subset_record.ad
  unfolding subset_record
  ad_stored out e = e

  pub alts_measured : {r : ℕ} → r ≡ length (alts_with alts (tail keep)) → r ≡ length subset_record.alts
  unfolding subset_record
  alts_measured e = e

  pub likelihoods_measured : {r : ℕ} → r ≡ genotype_count (length keep) → r ≡ length subset_record.likelihoods
  unfolding subset_record
  likelihoods_measured e = e ∙ sym (subset_length gl n keep)

  pub ad_measured : length keep ≡ length subset_record.ad
  unfolding subset_record
  ad_measured = sym (ad_length keep ad)

  -- the measured lengths have room
  pub measured_room : (out : Outputs) {a b : ℕ} {fits : Bool}
      → fits ≡ (leb a (length out.alts) && leb b (length out.likelihoods) && leb (length keep) (length out.ad))
      → a ≡ length (alts_with alts (tail keep)) → b ≡ genotype_count (length keep)
      → leb (length subset_record.alts) (length out.alts) && leb (length subset_record.likelihoods) (length out.likelihoods)
      && leb (length subset_record.ad) (length out.ad) ≡ fits
  measured_room out e p q = sym (rw (← alts_measured p, ← likelihoods_measured q, ← ad_measured) e)

-- where a subset is made, none of its likelihoods is above 0
pub subset_not_above : (keep : List ℕ) (alts : List (List ℕ)) (gl : List Float) (ad : List ℕ) {s : UnusedAltSubset} → subset_to keep alts gl ad ≡ accepted s
    → Every NotAbove s.likelihoods
unfolding subset_to
subset_not_above keep alts gl ad e =
    after_required _ _ _ e λ t e.
    rw (← accepted_same e) (likelihoods_not_above gl (suc (length alts)) keep (fitting gl (suc (length alts)) keep (both_of _ _ t).0))

module _ (alts gt : List ℕ) (gl : List Float) (ad : List ℕ) (assigned : every_alt_assigned alts gt ≡ false) where
  made_not_above : {s : UnusedAltSubset} → unused_alt_subset alts gt gl ad ≡ accepted s → Every NotAbove s.likelihoods
  unfolding unused_alt_subset
  made_not_above e = after_required _ _ _ e λ _ e. subset_not_above _ _ _ _ (simp assigned at e)

  within_not_above : (a b d : ℕ) {s : UnusedAltSubset} → unused_alt_subset_within alts gt gl ad a b d ≡ accepted s → Every NotAbove s.likelihoods
  unfolding unused_alt_subset_within
  within_not_above a b d e =
      after_then _ _ e λ s made e. after_required _ _ _ e λ _ e. rw (← accepted_same e) (made_not_above made)

  module _ (x y z : ℕ) {out out' : Outputs} where
    written_not_above : {n : UnusedAlts} (v : Checked UnusedAltSubset) → unused_alt_subset_within alts gt gl ad x y z ≡ v
        → UnusedAltsAnswered (unused_alt_subset_within alts gt gl ad x y z) out out' (Ok n) → none_above n.likelihoods out'.likelihoods ≡ true
    unfolding written_of list_of output_after ◌>>=◌
    written_not_above (refused row) e h = not_refused (sym (h.answer ∙ ap written_of e))
    written_not_above (accepted s) e h =
        let lengths = accepted_same (h.answer ∙ ap written_of e) in
        rw (h.likelihoods ∙ ap (λ v. output_after (list_of (λ s. s.likelihoods) v) out.likelihoods) e)
        (none_above_front s.likelihoods _ (ap (λ l. l.likelihoods) lengths) (within_not_above x y z e))

    subset_none_above_lem : (r : Result UnusedAlts Refusal) → UnusedAltsAnswered (unused_alt_subset_within alts gt gl ad x y z) out out' r
        → none_above (likelihood_count_of r) out'.likelihoods ≡ true
    subset_none_above_lem (Err r) h = none_above_none out'.likelihoods
    subset_none_above_lem (Ok n) h = written_not_above _ refl h

-- what the call promises of its likelihoods
module _ (alts gt : List ℕ) (gl : List Float) (ad : List ℕ) (out : Outputs) where
  abbrev Promised : Outputs → Result UnusedAlts Refusal → Type 0
  Promised out' r =
      UnusedAltsAnswered (unused_alt_subset_within alts gt gl ad (length out.alts) (length out.likelihoods) (length out.ad)) out out' r

  pub with_none_above : {out' : Outputs} {r : Result UnusedAlts Refusal} → Promised out' r
      → Promised out' r × (subset_none_above alts gt (likelihood_count_of r) out'.likelihoods ≡ true)
  with_none_above {out' = out'} {r = r} h = (h, go (every_alt_assigned alts gt) refl)
    where
      go : (v : Bool) → every_alt_assigned alts gt ≡ v → subset_none_above alts gt (likelihood_count_of r) out'.likelihoods ≡ true
      go true e = or_left (none_above (likelihood_count_of r) out'.likelihoods) e
      go false e = or_right (every_alt_assigned alts gt) (subset_none_above_lem alts gt gl ad e (length out.alts) (length out.likelihoods) (length out.ad) r h)

-- ---- which of the two

pub answered_as : {subset subset' : Checked UnusedAltSubset} {out out' : Outputs} {r : Result UnusedAlts Refusal} → subset ≡ subset'
    → UnusedAltsAnswered subset' out out' r → UnusedAltsAnswered subset out out' r
answered_as e a = rw e a

module _ (alts gt : List ℕ) (gl : List Float) (ad : List ℕ) where
  pub within_is : (out : Outputs)
      → unused_alt_subset_within alts gt gl ad (length out.alts) (length out.likelihoods) (length out.ad) ≡ subset_within (unused_alt_subset alts gt gl ad) out
  unfolding unused_alt_subset_within subset_within
  within_is out = refl

  module _ {count : ℕ} (counted : count ≡ length (alt_fields alts)) where
    alleles_are : suc (length (alt_fields alts)) ≡ count + 1
    alleles_are = omega arith

    pub too_many_alts : 15 < count → unused_alt_subset alts gt gl ad ≡ refused 15
    unfolding unused_alt_subset allele_count_fits
    too_many_alts h = not_required 15 _ _ (simp (lt-leb (suc (length (alt_fields alts))) 16 (omega arith), and-false))

    allowed : count ≤ 15 → allele_count_fits (count + 1) ≡ true
    unfolding allele_count_fits
    allowed h = both (le-leb 1 (count + 1) (omega arith)) (le-leb (count + 1) 16 (omega arith))

    pub all_named : count ≤ 15 → length (assigned_alleles (count + 1) gt) ≡ count + 1 → unused_alt_subset alts gt gl ad ≡ accepted (whole_record alts gl ad)
    unfolding unused_alt_subset
    all_named h e = rw alleles_are (required 15 _ _ (allowed h) (simp (eq-eqb _ _ e)))

    pub some_unnamed : count ≤ 15 → (length (assigned_alleles (count + 1) gt) ≡ count + 1 → ⊥)
        → unused_alt_subset alts gt gl ad ≡ subset_to (assigned_alleles (count + 1) gt) (alt_fields alts) gl ad
    unfolding unused_alt_subset
    some_unnamed h e = rw alleles_are (required 15 _ _ (allowed h) (simp (ne_eqb _ _ e)))
