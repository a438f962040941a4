-- From the records behind a header to the windows of the list, and what a call gives of them.
use Prim.Native.Nat.{◌+◌, ◌-◌, ◌/◌, ◌<◌, ◌≤◌, suc, zero, ℕ}
use borrow.Author.Tests.{le-leb, leb-true, lt-leb, ltb-true}
use lib.Dec.{leb, ltb}
use lib.ListN.{drop, length, take}
use lib.Seq.{length-take-le}
use mathlib.Core.Bool.{◌&&◌, false, true}
use mathlib.Core.List.{List, [], ◌++◌, ◌∷◌}
use mathlib.Core.Option.{Option, none, some}
use mathlib.Core.Path.{◌∙◌, ◌≡◌, ap, ap₂, refl, sym}
use native.Mathlib.Omega.{arith}
use Rattle.answers.proofs.Answers.{is_within, not_within}
use Rattle.answers.specs.Answered.{Answered, row_of}
use Rattle.answers.specs.declared.Refusal.{Refusal}
use Rattle.bio_ids.specs.declared.GenomeLoc.{GenomeLoc}
use Rattle.bio_ids.specs.declared.GenomePosition.{GenomePosition}
use Rattle.cohort.proofs.Whole.{names_count}
use Rattle.definitions.specs.Answers.{output_after, scratch_after, written_of}
use Rattle.definitions.specs.Checked.{Checked, ◌>>=◌, ◌>>◌, accepted, read_each, refused, require}
use Rattle.definitions.specs.Cohort.{samples_of}
use Rattle.definitions.specs.CombinedList.{fits}
use Rattle.definitions.specs.DepthWindows.{Windows, depth_windows, first_position, records_on, window_fits, windows_along, windows_over}
use Rattle.definitions.specs.Genotypes.{least}
use Rattle.definitions.specs.Limits.{max_samples, max_window}
use Rattle.definitions.specs.Lines.{line_at, lines_of}
use Rattle.definitions.specs.ListReader.{WrittenList, list_read, record_read, with_missing, written_list}
use Rattle.definitions.specs.Lists.{groups_of}
use Rattle.definitions.specs.Numbers.{number}
use Rattle.definitions.specs.Records.{Record}
use Rattle.laws.proofs.Checked.{accepted_same, after_then, each_read_back, not_refused, not_required, refused_back, required, then, then_refused}
use Rattle.laws.proofs.SoundList.{record_sound}
use Rattle.laws.proofs.SoundRecords.{RecordAfter, SoundRecords}
use Rattle.laws.proofs.Tests.{all_three, both_of}
use Rattle.list_reader.specs.RecordGroups.{group_lines}
use Rattle.list_walk.specs.Walk.{HeaderTo, Heading, groups_at, heading_of, start_of}
use Rattle.list_walk.specs.declared.ListHeader.{ListHeader}
use Rattle.tables.specs.Tables.{names_in}
use Rattle.window_counts.proofs.Along.{along_length}
use Rattle.window_counts.proofs.Reach.{Reached, counts_are, counts_small, no_extent, some_extent}
use Rattle.window_counts.specs.Along.{Span, along, counts_with, span_with, zeros}
use Rattle.window_counts.specs.Counts.{WindowsReady}
use Rattle.window_counts.specs.declared.Windows as counted
use Rattle.depth_windows.proofs.Walking.{along_back}
use Rattle.depth_windows.specs.Along.{CountReady, FillReady, all_counted, along_records, counts_along, extent_span, filled_counts, records_at}
use Rattle.depth_windows.specs.Windowed.{Given, OverReady, Placed, counts_of, filled_with, placed_of, windowed_answer, windows_behind, windows_over_span}
use Rattle.depth_windows.specs.declared.Asked.{Asked}
use Rattle.depth_windows.specs.declared.WindowRun.{WindowRun}
use Rattle.std.specs.Prelude as std

-- ---- what a call gives

pub given_refused : {windows : Checked Windows} {out out' : List ℕ} {r : Refusal} → windows ≡ refused (row_of r) → out' ≡ out
    → Given windows out out' (std.Err r)
unfolding placed_of counts_of output_after
given_refused e same = rw e (record { answer = refl; output = same })

pub given_windows : {windows : Checked Windows} {w : Windows} {out out' : List ℕ} (first : GenomePosition) {n : ℕ} → windows ≡ accepted w
    → first.0 ≡ w.first → n ≡ length w.counts → out' ≡ w.counts ++ drop (length w.counts) out
    → Given windows out out' (std.Ok (record { first = first; count = n }))
unfolding placed_of counts_of output_after
given_windows first e begins count same = rw e (record { answer = rw (begins, count); output = same })

-- of the same windows said another way
pub given_same : {windows windows' : Checked Windows} {out out' : List ℕ} {r : std.Result WindowRun Refusal} → windows ≡ windows' → Given windows out out' r
    → Given windows' out out' r
given_same e g = rw (← e) g

-- ---- counts in places

module _ {s : List ℕ} {h : ListHeader} {contig : List ℕ} {asked : Asked} {w : counted.Windows} {last : GenomePosition} (ready : FillReady s h contig asked w last) where
  zeros_length : (n : ℕ) → length (zeros n) ≡ n
  unfolding zeros
  zeros_length zero = refl
  zeros_length (suc n) = ap suc (zeros_length n)

  pub filled_length : length (filled_counts ready) ≡ suc ((last.0 - w.first.0) / w.step)
  filled_length = along_length contig asked.sample.0 asked.threshold w _ ready.list ∙ zeros_length _

  -- row 14
  pub filled_short : (places count : ℕ) → count ≡ suc ((last.0 - w.first.0) / w.step) → places < count
      → filled_with w.first.0 (filled_counts ready) places ≡ refused 14
  unfolding filled_with
  filled_short places count e l = then_refused _ _ (not_within (filled_counts ready) (omega (arith, filled_length)))

  module _ (out : List ℕ) (count : ℕ) (is : count ≡ suc ((last.0 - w.first.0) / w.step)) (fits : count ≤ length out) where
    taken : length (take count out) ≡ suc ((last.0 - w.first.0) / w.step)
    taken = length-take-le count out fits ∙ is

    pub zero_ready : CountReady s h contig asked w (zeros (length (take count out)))
    zero_ready = record {
      few = ready.few;
      sample_there = ready.sample_there;
      windows = ready.windows;
      list = ready.list;
      value = ready.value;
      fits = rw taken ready.fits;
    }

    pub filled_given : {part : List ℕ} (first : GenomePosition) → first.0 ≡ w.first.0
        → ((r : CountReady s h contig asked w (zeros (length (take count out)))) → part ≡ all_counted r)
        → Given (filled_with w.first.0 (filled_counts ready) (length out)) out (part ++ drop count out)
        (std.Ok (record { first = first; count = count }))
    unfolding filled_with zero_ready
    filled_given {part} first begins counts =
        let few : length (filled_counts ready) ≤ length out = omega (arith, filled_length) in
        let same : part ≡ filled_counts ready = counts zero_ready ∙ ap (λ (n : ℕ). counts_along contig asked w (zeros n) ready.list) taken in
        given_windows first (then _ _ (is_within (filled_counts ready) few) refl) begins (is ∙ sym filled_length)
        (ap₂ (λ (xs : List ℕ) (n : ℕ). xs ++ drop n out) same (is ∙ sym filled_length))

-- ---- a whole list

-- a value that was accepted and then used
then_used : {A B C : Type 0} (m : Checked A) (g : A → B) (f : B → Checked C) (f' : A → Checked C) → ((a : A) → f (g a) ≡ f' a)
    → ((m >>= λ a. accepted (g a)) >>= f) ≡ (m >>= f')
unfolding ◌>>=◌
then_used (refused n) g f f' h = refl
then_used (accepted a) g f f' h = h a

module _ (s contig : List ℕ) (asked : Asked) (places : ℕ) where
  -- the windows of the list
  abbrev all : Checked Windows
  all = windows_along s contig asked.sample.0 asked.threshold asked.size asked.step places

  pub too_long_lem : 16777216 < length s → all ≡ refused 2
  unfolding windows_along written_list fits
  too_long_lem h = then_refused _ _ (not_required 2 _ _ (lt-leb (length s) 16777216 h))

  module _ (short : length s ≤ 16777216) where
    fitting : fits s ≡ true
    unfolding fits
    fitting = le-leb (length s) 16777216 short

    -- the header is refused
    heading_refused : (row : ℕ) → heading_of s ≡ refused row → list_read s ≡ refused row
    unfolding heading_of list_read
    heading_refused row e =
        refused_back _ _ e (λ p. then_refused _ _ p)
        (λ names p e. refused_back _ _ e (λ q. then _ _ p (then_refused _ _ q)) (λ count q e. absurd (never e)))
      where
        never : {h : Heading} → ◌≡◌ {A = Checked Heading} (accepted h) (refused row) → ⊥
        never f = let z : ◌≡◌ {A = ℕ} 0 1 = cc in omega arith

    pub all_refused : (row : ℕ) → heading_of s ≡ refused row → all ≡ refused row
    unfolding windows_along written_list
    all_refused row e = then_refused _ _ (required 2 _ _ fitting (heading_refused row e))

    -- it reads, and the records behind it are the list's
    module _ {names₀ names : List ℕ} {h : ListHeader} (held : HeaderTo s names₀ names h) where
      abbrev written : List Record → WrittenList
      written records = record { names = names_in s names h.samples; records = records }

      same_groups : (count : ℕ) (found : List (List ℕ)) → found ≡ names_in s names h.samples → count ≡ h.records
          → read_each (record_read (length found) count) [] (with_missing count (groups_of (group_lines (length found)) (drop (2 + length found) (lines_of s))))
          ≡ records_at s h
      unfolding records_at groups_at
      same_groups count found f c =
          let none_read : h.records - 0 ≡ h.records = omega arith in
          rw (f, c, ← names_count s names h.samples, held.groups, none_read)

      records_read : list_read s ≡ (records_at s h >>= λ rs. accepted (written rs))
      unfolding heading_of list_read
      records_read =
          after_then _ _ held.value λ found p e. after_then _ _ e λ count q e.
          let found_is : found ≡ names_in s names h.samples = ap (λ (g : Heading). g.names) (accepted_same e) in
          let count_is : count ≡ h.records = ap (λ (g : Heading). g.records) (accepted_same e) in
          then _ _ p (then _ _ q (ap₂ (λ (m : Checked (List Record)) (ns : List (List ℕ)). m >>= λ rs. accepted (record { names = ns; records = rs }))
          (same_groups count found found_is count_is) found_is))

      -- what is made of a list that reads
      abbrev made : WrittenList → Checked Windows
      made list =
          require 17 (window_fits asked.size && window_fits asked.step && ltb asked.sample.0 (length list.names))
          >> filled_with (first_position (records_on contig list.records))
          (windows_over (records_on contig list.records) asked.sample.0 asked.threshold asked.size asked.step) places

      pub all_behind : all ≡ windows_behind s h contig asked places
      unfolding windows_along written_list windows_behind windows_over_span filled_with
      all_behind =
          ap (λ (m : Checked WrittenList). m >>= made) (required 2 _ _ fitting records_read)
          ∙ then_used (records_at s h) written made (λ rs. windows_over_span rs h.samples contig asked places)
          (λ rs. rw (← names_count s names h.samples))

-- ---- the records behind a header

module _ (s contig : List ℕ) (h : ListHeader) (asked : Asked) (places : ℕ) where
  pub records_refused : (row : ℕ) → records_at s h ≡ refused row → windows_behind s h contig asked places ≡ refused row
  unfolding windows_behind
  records_refused row e = then_refused _ _ e

  module _ {list : List Record} (value : records_at s h ≡ accepted list) where
    pub records_behind : windows_behind s h contig asked places ≡ windows_over_span list h.samples contig asked places
    unfolding windows_behind
    records_behind = then _ _ value refl

    pub list_sound : SoundRecords h.samples list
    unfolding records_at
    list_sound = each_read_back (RecordAfter h.samples) (record_read h.samples h.records) [] list _ (record_sound h.samples h.records) value

    -- row 17
    pub not_right : window_fits asked.size && window_fits asked.step && ltb asked.sample.0 h.samples ≡ false
        → windows_over_span list h.samples contig asked places ≡ refused 17
    unfolding windows_over_span
    not_right e = not_required 17 _ _ e

    module _ (yes-right : window_fits asked.size && window_fits asked.step && ltb asked.sample.0 h.samples ≡ true) where
      -- no record on the contig
      pub no_windows : none ≡ along (span_with contig) none list
          → windows_over_span list h.samples contig asked places ≡ accepted (record { first = 0; counts = [] })
      unfolding windows_over_span filled_with windows_over first_position least
      no_windows e =
          required 17 _ _ yes-right
          (rw (no_extent contig list_sound (sym e)) (then _ _ (is_within [] (omega arith)) refl))

      -- it has some: what counting its windows asks
      module _ (w : counted.Windows) (last : GenomePosition) {span : Span} (reach : some span ≡ along (span_with contig) none list)
          (begins : w.first.0 ≡ span.first) (ends : last.0 ≡ span.last) (size : w.size ≡ asked.size) (step : w.step ≡ asked.step)
          (few : h.samples ≤ max_samples) where
        reached : Reached (records_on contig list) span
        reached = some_extent contig list_sound (sym reach)

        checked : (window_fits asked.size ≡ true) × (window_fits asked.step ≡ true) × (ltb asked.sample.0 h.samples ≡ true)
        checked = all_three (window_fits asked.size) (window_fits asked.step) (ltb asked.sample.0 h.samples) yes-right

        sized : (n : ℕ) → window_fits n ≡ true → (1 ≤ n) × (n ≤ max_window)
        unfolding window_fits
        sized n e = let (a, b) = both_of (leb 1 n) (leb n max_window) e in (leb-true _ _ a, leb-true _ _ b)

        size_small : w.size ≤ max_window
        size_small = rw size (sized asked.size checked.0).1

        counts_zero : along (counts_with contig asked.sample.0 asked.threshold w) (zeros (suc ((last.0 - w.first.0) / w.step))) list
            ≡ windows_over (records_on contig list) asked.sample.0 asked.threshold w.size w.step
        counts_zero = rw ends (counts_are contig list_sound asked.sample.0 asked.threshold w reached begins)

        pub fill_ready : FillReady s h contig asked w last
        fill_ready = record {
          few = few;
          sample_there = ltb-true _ _ checked.2;
          windows = record {
            step_some = rw step (sized asked.step checked.1).0;
            step_small = rw step (sized asked.step checked.1).1;
            size_small = size_small;
            first_small = rw begins reached.first_small;
          };
          last_small = rw ends reached.last_small;
          from_first = rw (begins, ends) reached.from_first;
          list = list;
          value = value;
          fits = rw ends (counts_small contig list_sound asked.sample.0 asked.threshold w reached begins size_small);
        }

        pub filled_over : filled_with w.first.0 (filled_counts fill_ready) places ≡ windows_over_span list h.samples contig asked places
        unfolding windows_over_span fill_ready
        filled_over =
            sym (required 17 _ _ yes-right
            (rw (← size, ← step, ← counts_zero, ← reached.first_is, ← begins) refl))

-- ---- the contig's extent

pub over_ready : {s : List ℕ} {h : ListHeader} {contig : List ℕ} (e : std.Option GenomeLoc) → h.samples ≤ max_samples
    → accepted (extent_span e) ≡ along_records (span_with contig) none (records_at s h) → OverReady s h contig e
over_ready {s} {h} {contig} e few is =
    let back = along_back (span_with contig) none (records_at s h) (sym is) in
    record { few = few; list = back.later; value = back.value; extent_is = sym back.same }

-- ---- as any call that writes answers

refused_same : {A B : Type 0} {m n : ℕ} → ◌≡◌ {A = Checked A} (refused m) (refused n) → ◌≡◌ {A = Checked B} (refused m) (refused n)
refused_same {m = m} {n = n} e = let same : m ≡ n = cc in ap refused same

abbrev count_of : std.Result WindowRun Refusal → std.Result ℕ Refusal
count_of (std.Ok run) = std.Ok run.count
count_of (std.Err r) = std.Err r

pub depth_answered : (windows : Checked Windows) {out out' : List ℕ} (r : std.Result WindowRun Refusal) → Given windows out out' r
    → Answered (windows >>= λ w. accepted w.counts) out out' (count_of r)
unfolding placed_of counts_of written_of output_after ◌>>=◌
depth_answered (refused n) (std.Ok run) g = not_refused (sym g.answer)
depth_answered (refused n) (std.Err r) g = record { answer = refused_same g.answer; output = g.output }
depth_answered (accepted w) (std.Ok run) g = record { answer = ap (λ (p : Placed). accepted p.count) (accepted_same g.answer); output = g.output }
depth_answered (accepted w) (std.Err r) g = not_refused g.answer
