-- From the texts of a call to its tables, and from the answer for the tables to that for the texts.
use Prim.Native.Nat.{◌*◌, ◌<◌, ◌≤◌, ℕ}
use borrow.Author.Tests.{leb-true}
use lib.ListN.{length, length-map}
use mathlib.Core.Bool.{Bool, ◌&&◌, false, true}
use mathlib.Core.List.{List, [], map}
use mathlib.Core.Logic.{inl, inr, ⊎_elim}
use mathlib.Core.Path.{◌∙◌, ◌≡◌, refl, subst, sym}
use native.Mathlib.Omega.{arith}
use Rattle.answers.proofs.Answers.{answered_refused}
use Rattle.answers.specs.Answered.{Answered, row_of}
use Rattle.answers.specs.declared.LoadError.{LoadError}
use Rattle.answers.specs.declared.LoadError.TheVariants.{NoRoom, Refused}
use Rattle.answers.specs.declared.Refusal.{Refusal}
use Rattle.clip_and_reference.proofs.Groups.{in_order_lem, not_in_order}
use Rattle.clip_and_reference.specs.Groups.{GroupsFrom}
use Rattle.cohort.specs.Cohort.{CohortAt, CohortTo, CohortUnread, fitting_cohort, sites_in}
use Rattle.combined_list.specs.WrittenList.{CallLoaded, list_within}
use Rattle.definitions.specs.Answers.{scratch_after}
use Rattle.definitions.specs.Checked.{Checked, accepted, is_accepted, refused}
use Rattle.definitions.specs.ClipAndReference.{optional_groups, segment_of, span_of}
use Rattle.definitions.specs.Cohort.{cohort_of}
use Rattle.definitions.specs.CombinedList.{Input, Texts, combined_list, fits, input_of}
use Rattle.definitions.specs.Limits.{max_samples, max_sites, max_text_length}
use Rattle.definitions.specs.Lines.{Line}
use Rattle.definitions.specs.Lists.{missing_or, numbers_from, only_if}
use Rattle.indexed_groups.proofs.ShortTables.{no_segment_rows}
use Rattle.indexed_groups.proofs.Storing.{segments_unchanged}
use Rattle.indexed_groups.specs.Indexed.{SegmentsGiven, SegmentsIndexed, SegmentsOnly}
use Rattle.laws.proofs.Checked.{after_required, not_required, required, then, then_refused}
use Rattle.laws.proofs.Every.{every_of_each}
use Rattle.laws.proofs.Members.{length_numbers}
use Rattle.laws.proofs.SoundInput.{input_sound}
use Rattle.laws.proofs.SoundRecords.{NameAfter}
use Rattle.laws.proofs.Tests.{all_three, clash}
use Rattle.tables.proofs.Cleared.{scratch_same}
use Rattle.tables.proofs.SameSites.{same_rows, same_sites}
use Rattle.tables.specs.Tables.{name_at, names_in, site_at, table_length}
use Rattle.std.specs.Prelude.{Err, Ok, Result}
use Rattle.combine_gvcfs.specs.Combined.{CohortHeld, Combined, IfGiven, ReadTo, TableWhole, TablesFit, TextsAnswered, TextsFit, TextsLoaded, TriedWith, texts_of, texts_short}

-- ---- a text that may be left out

module _ {A : Type 0} (read : List Line → Checked A) (s : List ℕ) where
  -- its groups, if it is there
  pub record Optional (given : Bool) : Type 0 where
    pub groups : List A
    pub all : optional_groups read (only_if given s) ≡ accepted (only_if given groups)
    pub from : given ≡ true → GroupsFrom read s 0 groups

  pub optional_in_order : (given : Bool) → is_accepted (optional_groups read (only_if given s)) ≡ true → Optional given
  unfolding only_if optional_groups
  optional_in_order true h = let (groups, e, from) = in_order_lem read s h in record { groups = groups; all = e; from = λ _. from }
  optional_in_order false h = record { groups = []; all = refl; from = λ e. clash e refl }

  pub optional_refused : (given : Bool) → is_accepted (optional_groups read (only_if given s)) ≡ false
      → optional_groups read (only_if given s) ≡ refused 9
  unfolding only_if optional_groups is_accepted
  optional_refused true h = not_in_order read s h
  optional_refused false h = clash {b = true} refl h

-- a table of the same length
still_whole : (rows rows' : List ℕ) → length rows' ≡ length rows → TableWhole rows → TableWhole rows'
still_whole rows rows' e w = ⊎_elim (λ h. inl (omega arith)) (λ h. inr (omega arith)) w

-- ---- refusals

pub texts_refused : {t : Texts} {scratch : ℕ} {out out' : List ℕ} {r : Refusal} → input_of t ≡ refused (row_of r) → out' ≡ out
    → TextsAnswered t scratch out out' (Err r)
unfolding combined_list
texts_refused e same = record { answered = answered_refused (then_refused _ _ e) same }

module _ (cohort : List ℕ) (clipped : Bool) (clip : List ℕ) (referenced : Bool) (reference : List ℕ) where
  -- a text is too long
  pub too_long_lem : texts_short cohort clipped clip referenced reference ≡ false
      → input_of (texts_of cohort clipped clip referenced reference) ≡ refused 2
  unfolding input_of
  too_long_lem e = not_required 2 _ _ e

  pub cohort_long : missing_or fits (only_if true cohort) ≡ false → false ≡ texts_short cohort clipped clip referenced reference
  unfolding missing_or only_if
  cohort_long e = rw e

  pub clip_long : missing_or fits (only_if clipped clip) ≡ false → false ≡ texts_short cohort clipped clip referenced reference
  clip_long e = rw e (go (fits cohort))
    where
      go : (b : Bool) → false ≡ (b && false && missing_or fits (only_if referenced reference))
      go true = refl
      go false = refl

  -- neither cohort nor clip is
  pub by_reference : missing_or fits (only_if true cohort) ≡ true → missing_or fits (only_if clipped clip) ≡ true
      → missing_or fits (only_if referenced reference) ≡ texts_short cohort clipped clip referenced reference
  unfolding missing_or only_if
  by_reference e f = rw (e, f)

  module _ (fit : TextsFit cohort clipped clip referenced reference) where
    -- the cohort is refused
    pub cohort_refused : {row : ℕ} → fitting_cohort cohort ≡ refused row → input_of (texts_of cohort clipped clip referenced reference) ≡ refused row
    unfolding input_of fitting_cohort
    cohort_refused e =
        let (short, _, _) = all_three (fits cohort) (missing_or fits (only_if clipped clip)) (missing_or fits (only_if referenced reference)) fit in
        required 2 _ _ fit (then_refused _ _ (sym (required 2 _ (cohort_of cohort) short refl) ∙ e))

    pub cohort_held : {names₀ names rows₀ rows : List ℕ} {samples sites : ℕ} → 2 * max_samples ≤ length names → length rows ≡ length rows₀
        → TableWhole rows₀ → CohortTo cohort names₀ names rows₀ rows samples sites
        → CohortHeld cohort names rows samples sites clipped clip referenced reference
    unfolding fitting_cohort
    cohort_held {rows₀ = rows₀} {rows = rows} room long whole c = after_required _ _ _ c.value λ short e.
        record {
          all_fit = fit;
          value = e;
          table = c.table;
          few = c.few_samples;
          few_sites = c.few_sites;
          for_rows = omega (arith, c.room.for_rows);
          in_table = omega (arith, c.few_samples);
          whole = still_whole rows₀ rows long whole;
        }

-- a clip that is there is not too long
clip_short : (s : List ℕ) (clipped : Bool) (clip : List ℕ) (referenced : Bool) (reference : List ℕ) → TextsFit s clipped clip referenced reference
    → clipped ≡ true → length clip ≤ max_text_length
unfolding missing_or only_if fits
clip_short s clipped clip referenced reference fit there =
    let (_, short, _) = all_three (fits s) (missing_or fits (only_if clipped clip)) (missing_or fits (only_if referenced reference)) fit in
    leb-true (length clip) max_text_length (subst (λ (b : Bool). missing_or fits (only_if b clip) ≡ true) there short)

-- ---- rows of segments

segments_only : (given : Bool) {s rows after : List ℕ} → IfGiven given (SegmentsGiven s rows after) rows after → SegmentsOnly rows after
segments_only true x = (x.there refl).only
segments_only false x = rw (x.left_out refl) (segments_unchanged _)

module _ {s names rows : List ℕ} {samples sites : ℕ} {clipped : Bool} {clip : List ℕ} {referenced : Bool} {reference : List ℕ}
    (held : CohortHeld s names rows samples sites clipped clip referenced reference) {after : List ℕ}
    (given : IfGiven referenced (SegmentsGiven reference rows after) rows after) where
  only : SegmentsOnly rows after
  only = segments_only referenced given

  -- the tables still hold the cohort
  pub still_held : CohortHeld s names after samples sites clipped clip referenced reference
  unfolding sites_in
  still_held =
      let same = same_sites s rows after only.sites sites held.few_sites in
      let few : length (map (site_at s rows) (numbers_from 0 sites)) ≤ 4096 =
      omega (arith, held.few_sites, length-map (numbers_from 0 sites) (site_at s rows), length_numbers 0 sites) in
      record {
        all_fit = held.all_fit;
        value = rw same held.value;
        table = rw same (same_rows s rows after only.sites few held.table);
        few = held.few;
        few_sites = held.few_sites;
        for_rows = omega (arith, held.for_rows, only.long);
        in_table = held.in_table;
        whole = still_whole rows after only.long held.whole;
      }

  pub segments_there : referenced ≡ true → SegmentsIndexed reference after
  segments_there e =
      ⊎_elim (λ h. (given.there e).indexed h) (λ h. no_segment_rows reference after (omega (arith, only.long))) held.whole

-- ---- texts in order

module _ {s names rows : List ℕ} {samples sites : ℕ} {clipped : Bool} {clip : List ℕ} {referenced : Bool} {reference : List ℕ}
    (held : CohortHeld s names rows samples sites clipped clip referenced reference) where
  texts : Texts
  texts = texts_of s clipped clip referenced reference

  pub clip_refused : is_accepted (optional_groups span_of (only_if clipped clip)) ≡ false → input_of (texts_of s clipped clip referenced reference) ≡ refused 9
  unfolding input_of
  clip_refused e = required 2 _ _ held.all_fit (then _ _ held.value (then_refused _ _ (optional_refused span_of clip clipped e)))

  module _ (c : Optional span_of clip clipped) where
    pub reference_refused : is_accepted (optional_groups segment_of (only_if referenced reference)) ≡ false
        → input_of (texts_of s clipped clip referenced reference) ≡ refused 9
    unfolding input_of
    reference_refused e =
        required 2 _ _ held.all_fit
        (then _ _ held.value (then _ _ c.all (then_refused _ _ (optional_refused segment_of reference referenced e))))

    module _ (r : Optional segment_of reference referenced) (segments_indexed : referenced ≡ true → SegmentsIndexed reference rows) where
      input : Input
      input = record {
        cohort = record { names = names_in s names samples; sites = sites_in s rows sites };
        clip = only_if clipped c.groups;
        reference = only_if referenced r.groups;
      }

      input_read : input_of texts ≡ accepted input
      unfolding input_of texts input
      input_read = required 2 _ _ held.all_fit (then _ _ held.value (then _ _ c.all (then _ _ r.all refl)))

      names_length : samples ≡ length (names_in s names samples)
      unfolding names_in
      names_length = sym (length-map (numbers_from 0 samples) (name_at s names) ∙ length_numbers 0 samples)

      sites_length : sites ≡ length (sites_in s rows sites)
      unfolding sites_in
      sites_length = sym (length-map (numbers_from 0 sites) (site_at s rows) ∙ length_numbers 0 sites)

      pub call_loaded : CallLoaded s names rows samples sites clipped clip referenced reference
      unfolding input
      call_loaded =
          let sound = (input_sound texts input input_read).sound in
          record {
            loaded = record {
              input = input;
              table = held.table;
              names = names_length;
              few = held.few;
              segments = r.groups;
              segments_from = r.from;
              segments_indexed = segments_indexed;
              reference_is = refl;
              sound = sound;
            };
            clip_given = record {
              short = clip_short s clipped clip referenced reference held.all_fit;
              spans = c.groups;
              spans_from = c.from;
              clip_is = refl;
            };
            header = record {
              in_table = held.in_table;
              few = held.few;
              named = every_of_each (λ before n (h : NameAfter before n). h.name) sound.cohort.names.sound;
            };
            names_are = refl;
            all_sites = sites_length;
          }

      pub texts_loaded : {places : ℕ} → sites * 22 ≤ places → TextsLoaded s clipped clip referenced reference names rows places samples sites
      unfolding call_loaded input texts
      texts_loaded room = record { call = call_loaded; read = input_read; few_sites = held.few_sites; for_rows = room }

-- the answer for the tables is that for the texts
pub texts_answered : {s names rows : List ℕ} {samples sites : ℕ} {clipped : Bool} {clip : List ℕ} {referenced : Bool} {reference : List ℕ} {places : ℕ}
    → TextsLoaded s clipped clip referenced reference names rows places samples sites → (scratch : ℕ) {out out' : List ℕ} {o : Result ℕ Refusal}
    → ((call : CallLoaded s names rows samples sites clipped clip referenced reference)
    → Answered (list_within call.loaded scratch (length out)) out out' o)
    → TextsAnswered (texts_of s clipped clip referenced reference) scratch out out' o
unfolding combined_list
texts_answered t scratch {out = out} {out' = out'} {o = o} says = record {
  answered = subst (λ (list : Checked (List ℕ)). Answered list out out' o) (sym (then _ _ t.read refl)) (says t.call);
}

-- ---- the tables of a call

-- lists for so many sites, and a table that has no more rows
pub tables_fit : {names rows order firsts chosen : List ℕ} (places : ℕ) → length names ≡ 2 * max_samples → length order ≡ places → length firsts ≡ places
    → length chosen ≡ places → TableWhole rows → ((sites : ℕ) → sites ≤ max_sites → sites * 22 ≤ length rows → sites ≤ places)
    → TablesFit names rows order firsts chosen
tables_fit places n o f c whole few = record {
  tables = record { for_names = omega arith; whole = whole };
  for_sites = λ sites h k. let fit = few sites h k in record { for_order = omega arith; for_firsts = omega arith; for_chosen = omega arith };
}

-- a table for so many sites, with no rows of segments
pub short_fit : (places : ℕ) {names rows order firsts chosen : List ℕ} → places < max_sites → length names ≡ 2 * max_samples → length rows ≡ places * 22
    → length order ≡ places → length firsts ≡ places → length chosen ≡ places → TablesFit names rows order firsts chosen
short_fit places few n r o f c = tables_fit places n o f c (inr (omega arith)) (λ sites h k. omega arith)

-- a table for all
pub long_fit : {names rows order firsts chosen : List ℕ} → length names ≡ 2 * max_samples → length rows ≡ table_length → length order ≡ max_sites
    → length firsts ≡ max_sites → length chosen ≡ max_sites → TablesFit names rows order firsts chosen
long_fit n r o f c = tables_fit 4096 n o f c (inl (omega arith)) (λ sites h k. h)

-- a table with room for the names has none for the rows
pub rows_short : {names₀ names rows₀ rows : List ℕ} → 2 * max_samples ≤ length names₀ → CohortUnread names₀ names rows₀ rows → length rows₀ < max_sites * 22
rows_short e u = ⊎_elim (λ h. absurd (omega arith)) (λ h. h) u.no_room

-- a cohort that is not read into the tables is refused, or the tables have no room
pub cohort_unread : (s : List ℕ) (clipped : Bool) (clip : List ℕ) (referenced : Bool) (reference names₀ names rows₀ rows : List ℕ) (e : LoadError)
    → TextsFit s clipped clip referenced reference → 2 * max_samples ≤ length names₀ → CohortAt s names₀ names rows₀ rows (Err e)
    → ReadTo s clipped clip referenced reference names rows (length rows₀) (Err e)
unfolding ReadTo CohortAt
cohort_unread s clipped clip referenced reference names₀ names rows₀ rows (Refused refusal) fit room h =
    cohort_refused s clipped clip referenced reference fit h.value
cohort_unread s clipped clip referenced reference names₀ names rows₀ rows NoRoom fit room h = rows_short room h

-- what a table of so many places gave, as what a longer one may give
pub tried_longer : (texts : Texts) (scratch : ℕ) (out out' : List ℕ) (places more : ℕ) (r : Result ℕ LoadError) → more < max_sites * 22
    → TriedWith texts scratch out out' places r → TriedWith texts scratch out out' more r
unfolding TriedWith
tried_longer t scratch out out' places more (Ok written) fit tried = tried
tried_longer t scratch out out' places more (Err (Refused refusal)) fit tried = tried
tried_longer t scratch out out' places more (Err NoRoom) fit tried = (tried.0, fit)

-- texts that are not read into the tables are refused, or the tables have no room
pub not_loaded : (s : List ℕ) (clipped : Bool) (clip : List ℕ) (referenced : Bool) (reference names rows : List ℕ) (places scratch : ℕ) (out : List ℕ)
    (e : LoadError) → ReadTo s clipped clip referenced reference names rows places (Err e)
    → TriedWith (texts_of s clipped clip referenced reference) scratch out out places (Err e)
unfolding ReadTo TriedWith
not_loaded s clipped clip referenced reference names rows places scratch out (Refused refusal) h = texts_refused h refl
not_loaded s clipped clip referenced reference names rows places scratch out NoRoom h = (refl, h)

-- tables that refused the texts, or had no room for them
pub tried_refused : (t : Texts) (scratch places : ℕ) (out out' : List ℕ) {r : Result ℕ LoadError} {error : LoadError} {refusal : Refusal} → r ≡ Err error
    → error ≡ Refused refusal → TriedWith t scratch out out' places r → TextsAnswered t scratch out out' (Err refusal)
unfolding TriedWith
tried_refused t scratch places out out' e f tried = rw (e, f) at tried

pub tried_full : (t : Texts) (scratch places : ℕ) (out out' : List ℕ) {r : Result ℕ LoadError} {error : LoadError} → r ≡ Err error → error ≡ NoRoom
    → TriedWith t scratch out out' places r → (out' ≡ out) × (places < max_sites * 22)
unfolding TriedWith
tried_full t scratch places out out' e f tried = rw (e, f) at tried

-- the table for all has rows for all sites
pub full_table : {R : Type 0} (places : ℕ) → places ≡ table_length → places < max_sites * 22 → R
full_table places e h = absurd (omega arith)

-- the other tables are tried with the same output
pub tried_again : {t : Texts} {scratch scratch₁ : ℕ} {out out₁ out' : List ℕ} {r : Result ℕ Refusal} → scratch₁ ≡ scratch → out₁ ≡ out
    → TextsAnswered t scratch₁ out₁ out' r → TextsAnswered t scratch out out' r
tried_again e f a = rw (← e, ← f) a

-- ---- scratch

pub combined : {t : Texts} {scratch : List ℕ} (scratch₁ : List ℕ) {scratch' out out' : List ℕ} {r : Result ℕ Refusal} → TextsAnswered t (length scratch) out out' r
    → length scratch₁ ≡ length scratch → scratch' ≡ scratch_after scratch₁ → Combined t scratch scratch' out out' r
combined {scratch = scratch} scratch₁ a same cleared = record {
  answer = a.answered.answer;
  output = a.answered.output;
  cleared = cleared ∙ scratch_same scratch₁ scratch same;
}
