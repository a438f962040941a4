-- How many letters are cut off a list in order, and what a call answers.
use Prim.Native.Nat.{◌+◌, ◌<◌, ◌≤◌, ℕ}
use lib.ListN.{drop, length, take}
use mathlib.Core.Bool.{false, true}
use mathlib.Core.List.{List, [], ◌++◌, ◌∷◌, filter_map, map}
use mathlib.Core.Path.{◌∙◌, ◌≡◌, ap, refl, sym}
use native.Mathlib.Nat.{zero-add}
use native.Mathlib.Omega.{arith}
use Rattle.answers.proofs.Answers.{answered_refused, answered_written, is_within, not_within}
use Rattle.answers.specs.Answered.{Answered}
use Rattle.std.specs.Prelude.{Err, Ok}
use Rattle.answers.specs.declared.Refusal.TheVariants as refusal
use Rattle.definitions.specs.Alleles.{capital, written_alleles}
use Rattle.definitions.specs.Bytes.{comma, fields_of}
use Rattle.definitions.specs.Checked.{accepted, is_accepted, within}
use Rattle.definitions.specs.Lists.{any_of}
use Rattle.definitions.specs.ReverseTrim.{alleles_from, reverse_trimmed, suffix_clip_count, trimmed_alleles, without_suffix}
use Rattle.kv_text.specs.Fields.{field_length}
use Rattle.kv_write.proofs.Laying.{measured, sets_front}
use Rattle.kv_write.specs.Laid.{Laid}
use Rattle.laws.proofs.Checked.{then, then_refused}
use Rattle.laws.proofs.Tests.{clash}
use Rattle.laws.proofs.AllelesAsRead.{allele_as_read}
use Rattle.reverse_trim.proofs.ClipCount.{few_letters, many_letters, no_letters, ref_first, some_letters}
use Rattle.reverse_trim.proofs.InOrder.{fields_alone, fields_several, in_order_lem, not_in_order, rest_is, rest_from}
use Rattle.reverse_trim.specs.CommonEnding.{common_ending_of_all}
use Rattle.reverse_trim.specs.LetterAlleles.{alleles_spelled, letters_spelled, spells_letters}

module _ (s : List ℕ) (end : ℕ) (ends : end ≡ 0 + field_length 44 (drop 0 s)) where
  pub alone_count : length s ≤ end → 0 ≡ suffix_clip_count (letters_spelled s)
  unfolding letters_spelled alleles_spelled filter_map
  alone_count h = rw (fields_alone s end ends h) (few_letters s [] refl)

  module _ (h : end < length s) where
    pub none_count : any_of spells_letters (fields_of comma (rest_from s (end + 1))) ≡ false → 0 ≡ suffix_clip_count (letters_spelled s)
    unfolding letters_spelled alleles_spelled
    none_count e =
        let alts = fields_of comma (drop (end + 1) s) in
        rw (fields_several s end ends h) (few_letters (take end s) alts (no_letters alts (rw (rest_is s (end + 1)) at e)))

    pub several_count : is_accepted (alleles_from (fields_of comma s)) ≡ true
        → any_of spells_letters (fields_of comma (rest_from s (end + 1))) ≡ true
        → common_ending_of_all (map capital (take end s) ∷ letters_spelled (rest_from s (end + 1))) ≡ suffix_clip_count (letters_spelled s)
    unfolding letters_spelled alleles_spelled
    several_count right e =
        let alts = fields_of comma (drop (end + 1) s) in
        let read = in_order_lem (take end s) alts (rw (fields_several s end ends h) at right) in
        rw (fields_several s end ends h, ref_first (take end s) alts read.ref_letters, rest_is s (end + 1))
        (sym (many_letters (map capital (take end s)) _ (some_letters alts (rw (rest_is s (end + 1)) at e))))

-- ---- a call

alleles_read : (fs : List (List ℕ)) → is_accepted (alleles_from fs) ≡ true → alleles_from fs ≡ accepted (map allele_as_read fs)
unfolding alleles_from is_accepted
alleles_read [] h = clash h refl
alleles_read (ref ∷ alts) h = (in_order_lem ref alts h).read

module _ (s out : List ℕ) where
  -- row 5
  pub faulty_answered : is_accepted (alleles_from (fields_of comma s)) ≡ false → Answered (trimmed_alleles s (length out)) out out (Err refusal.Alleles)
  unfolding trimmed_alleles
  faulty_answered h = answered_refused (then_refused _ _ (not_in_order (fields_of comma s) h)) refl

  module _ (right : is_accepted (alleles_from (fields_of comma s)) ≡ true) {clip : ℕ} (count : clip ≡ suffix_clip_count (letters_spelled s)) where
    abbrev trimmed : List ℕ
    trimmed = written_alleles (map (without_suffix clip) (alleles_spelled s))

    trimmed_is : trimmed_alleles s (length out) ≡ within (length out) trimmed
    unfolding trimmed_alleles reverse_trimmed alleles_spelled letters_spelled
    trimmed_is = then _ _ (alleles_read (fields_of comma s) right) (rw count)

    module _ {part : List ℕ} {len : ℕ} (measure : Laid [] 0 trimmed part len) where
      same_out : part ++ out ≡ out
      same_out = measured measure out

      length_is : len ≡ length trimmed
      length_is = measure.next ∙ zero-add _

      -- row 14
      pub full_answered : length (part ++ out) < len → Answered (trimmed_alleles s (length out)) out (part ++ out) (Err refusal.Output)
      full_answered h =
          let few : length out < length trimmed = omega (arith, ap length same_out, length_is) in
          answered_refused (trimmed_is ∙ not_within trimmed few) same_out

      pub fitting_answered : {out' : List ℕ} {r : ℕ} → len ≤ length (part ++ out) → Laid (part ++ out) 0 trimmed out' r
          → Answered (trimmed_alleles s (length out)) out out' (Ok len)
      fitting_answered h p =
          let room : length trimmed ≤ length out = omega (arith, ap length same_out, length_is) in
          answered_written (trimmed_is ∙ is_within trimmed room) length_is (p.laid ∙ rw same_out (sets_front out trimmed room))
