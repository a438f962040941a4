-- REF by what the steps found: the letter, or the longest of the REFs.
use Prim.Native.Nat.{ℕ}
use mathlib.Core.Bool.{Bool, false, true}
use mathlib.Core.List.{List, [], ◌∷◌, map}
use mathlib.Core.Option.{none, some}
use mathlib.Core.Path.{◌∙◌, ◌≡◌, ap, refl, sym}
use Rattle.clip_and_reference.proofs.Groups.{all_read}
use Rattle.clip_and_reference.specs.Groups.{SegmentsFrom}
use Rattle.definitions.specs.Alleles.{capital}
use Rattle.definitions.specs.Bytes.{is_prefix}
use Rattle.definitions.specs.Checked.{Checked, accepted, or_refuse}
use Rattle.definitions.specs.ClipAndReference.{ReferenceSegment, segment_of}
use Rattle.definitions.specs.Cohort.{Site}
use Rattle.definitions.specs.Lists.{all_of, only_if}
use Rattle.definitions.specs.MergedRef.{merged_ref, ref_letter, shared_ref, unknown_base}
use Rattle.indexed_groups.proofs.Storing.{segments_split}
use Rattle.indexed_groups.specs.Indexed.{SegmentsIndexed}
use Rattle.laws.proofs.Capitals.{capital_letter}
use Rattle.laws.proofs.Checked.{not_required, or_refused, required, then, then_refused}
use Rattle.laws.proofs.ReachedLetter.{ref_letter_reached, ref_letter_unknown, unknown_base_lem}
use Rattle.tables.specs.Tables.{column, part_at}
use Rattle.merged_ref.specs.Answers.{letter_bytes, part_or, reached_place, ref_answer, ref_bytes, ref_or, reference_segments, sites_at, starting_refs}
use Rattle.merged_ref.proofs.Letters.{LetterFound, letter_is, letter_lacks}
use Rattle.merged_ref.proofs.Reached.{none_there, reached_there}
use Rattle.merged_ref.proofs.Starting.{LongestFound}
use Rattle.answers.specs.declared.Refusal.TheVariants as refusal
use Rattle.std.specs.Prelude.{Err, Ok}
use Rattle.std.specs.Prelude as std
use Rattle.merged_ref.specs.declared.Place.TheVariants.{Cohort, Nowhere, Reference}
use Rattle.merged_ref.specs.declared.RefAt.{RefAt}
use Rattle.merged_ref.specs.declared.RefAt.TheVariants as answer

-- for callers: an answer that does not refuse says where REF stands, in either case
pub answered : (s reference : List ℕ) (at : RefAt) → ref_answer s reference (Ok at) ≡ accepted (map capital (ref_bytes s reference at))
unfolding ref_answer
answered s reference at = refl

module _ (s rows reference contig : List ℕ) (position : ℕ) (found : List ℕ) (referenced : Bool) (segments : List ReferenceSegment) where
  abbrev covering : List Site
  covering = sites_at s rows found

  -- ---- a letter

  pub letter_reached : referenced ≡ false → (i : ℕ) → some i ≡ reached_place s rows position found
      → ref_answer s reference (Ok (answer.Letter (Cohort i))) ≡ ref_letter (only_if referenced segments) contig position covering
  unfolding ref_answer ref_bytes ref_or part_or letter_bytes only_if
  letter_reached h i e =
      let (byte, is, there) = reached_there s rows position found (sym e) in
      rw (h, there) (sym (ref_letter_reached contig position covering is))

  -- `N` is its own capital
  unknown_raised : map capital (unknown_base ∷ []) ≡ unknown_base ∷ []
  unknown_raised = ap (λ (b : ℕ). b ∷ []) (capital_letter unknown_base unknown_base_lem)

  pub letter_unknown : referenced ≡ false → none ≡ reached_place s rows position found
      → ref_answer s reference (Ok (answer.Letter Nowhere)) ≡ ref_letter (only_if referenced segments) contig position covering
  unfolding ref_answer ref_bytes ref_or part_or letter_bytes only_if
  letter_unknown h e = rw (h, unknown_raised) (sym (ref_letter_unknown contig position covering (none_there s rows position found (sym e))))

  pub letter_there : referenced ≡ true → (i : ℕ) → LetterFound reference contig position segments (some i)
      → ref_answer s reference (Ok (answer.Letter (Reference i))) ≡ ref_letter (only_if referenced segments) contig position covering
  unfolding ref_answer ref_bytes ref_or part_or letter_bytes ref_letter only_if
  letter_there h i f =
      let (byte, first, is) = letter_is reference contig position segments i f in
      rw (h, is) (sym (then _ _ (or_refused 11 _ first) refl))

  pub letter_lacking : referenced ≡ true → LetterFound reference contig position segments none
      → ref_answer s reference (Err refusal.ReferenceLetter) ≡ ref_letter (only_if referenced segments) contig position covering
  unfolding ref_answer ref_letter only_if or_refuse
  letter_lacking h f = rw h (sym (then_refused _ _ (ap (or_refuse 11) (letter_lacks reference contig position segments f))))

  -- ---- REF

  pub by_letter : LongestFound s rows position found std.None → {ref : Checked (List ℕ)}
      → ref ≡ ref_letter (only_if referenced segments) contig position covering
      → ref ≡ merged_ref (only_if referenced segments) contig position covering
  unfolding merged_ref LongestFound
  by_letter f e = rw f e

  module _ (site : ℕ) (f : LongestFound s rows position found (std.Some site)) {agree : Bool}
      (e : agree ≡ all_of (λ ref. is_prefix ref (map capital (part_at 9 10 s rows site))) (starting_refs position covering)) where
    pub shared : agree ≡ true
        → ref_answer s reference (Ok (answer.Allele (column 9 rows site) (column 10 rows site)))
        ≡ merged_ref (only_if referenced segments) contig position covering
    unfolding ref_answer ref_bytes ref_or part_at merged_ref shared_ref LongestFound starting_refs
    shared h = rw (f.0, ← f.1) (sym (required 12 _ _ (sym e ∙ h) refl))

    pub conflict : agree ≡ false
        → ref_answer s reference (Err refusal.RefConflict) ≡ merged_ref (only_if referenced segments) contig position covering
    unfolding ref_answer merged_ref shared_ref LongestFound starting_refs
    conflict h = rw (f.0, ← f.1) (sym (not_required 12 _ _ (sym e ∙ h)))

-- for callers: of a reference in order whose first segments have rows, these are all segments
pub all_segments : (reference rows : List ℕ) {segments : List ReferenceSegment} → SegmentsIndexed reference rows → SegmentsFrom reference 0 segments
    → reference_segments reference rows ≡ segments
unfolding reference_segments
all_segments reference rows x from = sym (segments_split reference rows x) ∙ all_read segment_of reference from

-- and REF is that of these, if there is a reference
pub by_segments : (reference rows : List ℕ) (referenced : Bool) (segments : List ReferenceSegment)
    → (referenced ≡ true → SegmentsFrom reference 0 segments) → (referenced ≡ true → SegmentsIndexed reference rows)
    → (contig : List ℕ) (position : ℕ) (covering : List Site)
    → merged_ref (only_if referenced (reference_segments reference rows)) contig position covering
    ≡ merged_ref (only_if referenced segments) contig position covering
unfolding merged_ref ref_letter only_if
by_segments reference rows true segments from indexed contig position covering = rw (all_segments reference rows (indexed refl) (from refl))
by_segments reference rows false segments from indexed contig position covering = refl
