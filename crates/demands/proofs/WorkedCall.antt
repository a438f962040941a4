-- `AcceptedByCall` for the second of two calls that are given by their texts (TwoCalls): its list is called. WorkedCohorts applies it.
use Prim.Native.Nat.{ℕ}
use Prim.Native.String.{String}
use lib.Dec.{T, leb}
use lib.ListN.{drop, length, length-replicate, replicate}
use lib.Seq.{take_at}
use mathlib.Core.List.{List, [], ◌++◌}
use mathlib.Core.Path.{◌∙◌, ◌≡◌, refl, sym}
use Rattle.answers.proofs.Answers.{answered_written}
use Rattle.std.specs.Prelude.{Ok}
use Rattle.combine_gvcfs.specs.Combined.{Combined}
use Rattle.definitions.specs.Answers.{scratch_after}
use Rattle.definitions.specs.Bytes.{text}
use Rattle.definitions.specs.CalledList.{called_list, called_records, printed_called_list}
use Rattle.definitions.specs.Checked.{accepted, is_accepted, within}
use Rattle.definitions.specs.CombinedList.{Texts, combined_list}
use Rattle.definitions.specs.Limits.{max_text_length}
use Rattle.laws.proofs.Checked.{accepted_same, required, value_or}
use Rattle.laws.proofs.SoundInput.{input_sound}
use Rattle.laws.proofs.Tests.{so}
use Rattle.demands.proofs.AcceptedByCall.{accepted_by_call}
use Rattle.demands.proofs.TwoCalls.{TwoCalls, accepted_value, cohort_read, cohort_in, new_list, new_texts, outline, records_read, records_in}

-- what the entry promises of a call that gives this list
promised : {t : Texts} {list : List ℕ} (scratch out : List ℕ) → combined_list t (length scratch) (length out) ≡ accepted list
    → Combined t scratch (scratch_after scratch) out (list ++ drop (length list) out) (Ok (length list))
promised scratch out e =
    let a = answered_written e refl refl in
    record { answer = a.answer; output = a.output; cleared = refl }

-- the records that are called, and that the second list is accepted and called as these, with any output
pub record CalledAs (k : TwoCalls) (called : String) : Type 0 where
  pub called_list_lem : outline (called_records (records_in (new_list k))) ≡ text called
  pub by_call : (out_length : ℕ) → called_list (value_or [] (new_list k)) out_length
      ≡ within out_length (printed_called_list (cohort_in k.new).names (called_records (records_in (new_list k))))

pub called_as : (k : TwoCalls) {called : String} → T (is_accepted (new_list k)) → T (leb (length (value_or [] (new_list k))) max_text_length)
    → outline (called_records (records_in (new_list k))) ≡ text called → CalledAs k called
unfolding new_list
called_as k t short e =
    let ok = accepted_value (new_list k) t in
    let list = value_or [] (new_list k) in
    let scratch : List ℕ = replicate 96 0 in
    let out : List ℕ = replicate 8192 0 in
    let call = promised {t = new_texts k} {list = list} scratch out
    (rw (length-replicate {A = ℕ} 96 0, length-replicate {A = ℕ} 8192 0) ok) in
    let (x, records, read, merged, back, called) = accepted_by_call (new_texts k) scratch (scratch_after scratch) out _ (length list) call in
    let bytes = take_at list (drop (length list) out) (length list) refl in
    let cohort : x.cohort ≡ cohort_in k.new =
    accepted_same (sym (input_sound (new_texts k) x read).cohort_read ∙ cohort_read (new_texts k) 96 8192 _ ok) in
    let same : records ≡ records_in (new_list k) = records_read _ _ _ ok (rw bytes at back) in
    record {
      called_list_lem = e;
      by_call = λ out_length. rw (← bytes, ← cohort, ← same) (called out_length ∙ required _ _ _ (so _ short) refl);
    }
