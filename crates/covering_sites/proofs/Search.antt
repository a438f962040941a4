-- The search for the last site of each run that covers a position, one site and one sample at a time.
use Prim.Native.Nat.{◌+◌, ◌-◌, ◌<◌, ◌^◌, ◌≤◌, suc, zero, ℕ}
use borrow.Author.Tests.{le-leb, lt-leb, ltb-false, ltb-true}
use lib.Dec.{leb}
use lib.ListN.{drop, drop_of_length-le, get_or, length, length-drop, length-take, set}
use lib.Seq.{drop-cons, get_or-drop, get_or-take}
use mathlib.Core.Bool.{Bool, ◌&&◌, cond, false, true}
use mathlib.Core.List.{List, [], ◌∷◌, filter_map, filter_map-cons-none, filter_map-cons-some}
use mathlib.Core.Option.{Option, map, none, some}
use mathlib.Core.Path.{◌∙◌, ◌≡◌, ap, refl, sym}
use native.Mathlib.Nat.{add-zero, sub-zero, zero-add}
use native.Mathlib.Numerals.{add-one}
use native.Mathlib.Omega.{arith}
use Rattle.std.specs.Prelude as std
use Rattle.answers.specs.Options.{option_of}
use Rattle.definitions.specs.Lists.{numbers_from}
use Rattle.kv_text.specs.Fields.{between}
use Rattle.kv_write.proofs.Laying.{Left, done, left_length, one, recast, start}
use Rattle.laws.proofs.Members.{◌∈◌, length_numbers, member_numbers}
use Rattle.covering_sites.proofs.Filtered.{numbers_end, numbers_next}
use Rattle.covering_sites.proofs.Same.{filter_map_few, filter_map_same}
use Rattle.tables.specs.Tables.{column}
use Rattle.covering_sites.specs.Covering.{Found, RunAscends, covering_rows, covering_samples, last_covering, last_from, row_covers}
use Rattle.covering_sites.specs.Ended.{row_ended}
use Rattle.covering_sites.specs.Runs.{Runs, run_at}

-- ---- one run

pub part_next : (l : List ℕ) (i to : ℕ) → i < to → to ≤ length l → between l i to ≡ get_or l i 0 ∷ between l (i + 1) to
part_next l i to h k =
    let n : to - i ≡ suc (to - (i + 1)) = omega arith in
    let b : i < length l = omega arith in
    rw (n, drop-cons l i 0 b, ← add-one i)

pub part_end : (l : List ℕ) (i to : ℕ) → to ≤ i → between l i to ≡ []
part_end l i to h = let n : to - i ≡ 0 = omega arith in rw n

pub part_at_lem : (l : List ℕ) (from to k : ℕ) → from ≤ k → k < to → get_or (between l from to) (k - from) 0 ≡ get_or l k 0
part_at_lem l from to k h b =
    let here : from + (k - from) ≡ k = omega arith in
    get_or-take (to - from) (drop from l) (k - from) 0 (omega arith) ∙ get_or-drop from l (k - from) 0 ∙ ap (λ (m : ℕ). get_or l m 0) here

pub part_length : (l : List ℕ) (from to : ℕ) → to ≤ length l → length (between l from to) ≡ to - from
part_length l from to h = omega (arith, length-take (to - from) (drop from l), length-drop from l)

-- a number of a part
pub part_at : (l : List ℕ) (from to j : ℕ) → j < to - from → get_or (between l from to) j 0 ≡ get_or l (from + j) 0
part_at l from to j h = get_or-take (to - from) (drop from l) j 0 h ∙ get_or-drop from l j 0

module _ (q : ℕ → Bool) where
  -- none passes
  pub search_left : (l : List ℕ) (so_far : Option ℕ) → ((k : ℕ) → k < length l → q (get_or l k 0) ≡ false) → last_from q so_far l ≡ so_far
  unfolding last_from
  search_left [] so_far h = refl
  search_left (x ∷ l) so_far h =
      ap (λ (b : Bool). last_from q (cond b (some x) so_far) l) (h 0 (omega arith)) ∙ search_left l so_far (λ k less. h (suc k) (omega (arith, less)))

module _ (q : ℕ → Bool) (chosen : List ℕ) (to : ℕ) (k : to ≤ length chosen) where
  -- sites of which none passes may be left out at the front
  pub search_skip : (so_far : Option ℕ) (n a : ℕ) → a + n ≤ to → ((m : ℕ) → a ≤ m → m < a + n → q (get_or chosen m 0) ≡ false)
      → last_from q so_far (between chosen a to) ≡ last_from q so_far (between chosen (a + n) to)
  unfolding last_from
  search_skip so_far zero a h none_before = rw (add-zero a)
  search_skip so_far (suc n) a h none_before =
      let here : a < to = omega arith in
      let next : a + suc n ≡ a + 1 + n = omega arith in
      ap (last_from q so_far) (part_next chosen a to here k)
      ∙ ap (λ (b : Bool). last_from q (cond b (some (get_or chosen a 0)) so_far) (between chosen (a + 1) to)) (none_before a (omega arith) (omega arith))
      ∙ rw next (search_skip so_far n (a + 1) (omega arith) (λ m l u. none_before m (omega arith) (omega arith)))

-- ---- a site that is looked at

module _ (rows : List ℕ) (position i : ℕ) where
  pub ended_before : column 3 rows i < position → row_covers rows position i ≡ false
  unfolding row_covers
  ended_before h = rw (lt-leb position (column 3 rows i) h) (and_false (leb (column 2 rows i) position))
    where
      and_false : (b : Bool) → b && false ≡ false
      and_false true = refl
      and_false false = refl

  pub starts_later : position < column 2 rows i → row_covers rows position i ≡ false
  unfolding row_covers
  starts_later h = rw (lt-leb (column 2 rows i) position h)

  covered : column 2 rows i ≤ position → position ≤ column 3 rows i → row_covers rows position i ≡ true
  unfolding row_covers
  covered h k = rw (le-leb (column 2 rows i) position h, le-leb position (column 3 rows i) k)

-- ---- the search in one run

module _ (rows : List ℕ) (position : ℕ) (run : List ℕ) where
  -- the last so far and what is left of the run give the last that covers
  pub record Searching (last : std.Option ℕ) (i : ℕ) : Type 0 where
    pub same : last_from (row_covers rows position) (option_of last) (drop i run) ≡ last_covering rows position run

  pub search_begin : Searching std.None 0
  unfolding last_covering
  search_begin = record { same = refl }

  module _ {last : std.Option ℕ} {i : ℕ} (s : Searching last i) where
    module _ (h : i < length run) where
      from_here : last_from (row_covers rows position)
          (cond (row_covers rows position (get_or run i 0)) (some (get_or run i 0)) (option_of last)) (drop (i + 1) run)
          ≡ last_covering rows position run
      unfolding last_from
      from_here = rw (add-one i) (rw (drop-cons run i 0 h) at s.same)

      -- a site that starts at the position or before it
      module _ (starts : column 2 rows (get_or run i 0) ≤ position) where
        pub search_found : row_ended rows position (get_or run i 0) ≡ false → Searching (std.Some (get_or run i 0)) (i + 1)
        unfolding row_ended
        search_found e = record { same = rw (covered rows position (get_or run i 0) starts (ltb-false _ _ e)) at from_here }

        pub search_passed : row_ended rows position (get_or run i 0) ≡ true → Searching last (i + 1)
        unfolding row_ended
        search_passed e = record { same = rw (ended_before rows position (get_or run i 0) (ltb-true _ _ e)) at from_here }

      -- a site that starts behind it: so does every site behind that one
      pub search_stop : RunAscends rows run → position < column 2 rows (get_or run i 0) → option_of last ≡ last_covering rows position run
      search_stop a behind =
          sym (search_left (row_covers rows position) (drop i run) (option_of last)
          (λ k less. rw (get_or-drop i run k 0)
          (starts_later rows position (get_or run (i + k) 0)
          (omega (arith, a.ascend i (i + k) (omega arith) (omega (arith, less, length-drop i run)))))))
          ∙ s.same

    pub search_end : length run ≤ i → option_of last ≡ last_covering rows position run
    unfolding last_from
    search_end h = rw (drop_of_length-le run h) at s.same

-- ---- all runs

module _ (rows : List ℕ) (position : ℕ) (chosen bounds : List ℕ) (samples : ℕ) where
  -- the sites found in the runs from this sample on
  unfoldable pub found_from : ℕ → List ℕ
  found_from x = filter_map (λ y. last_covering rows position (run_at chosen bounds y)) (numbers_from x (samples - x))

  -- and their samples
  unfoldable pub owners_from : ℕ → List ℕ
  owners_from x = filter_map (λ y. map (λ _. y) (last_covering rows position (run_at chosen bounds y))) (numbers_from x (samples - x))

  -- those of the samples that are left complete the lists
  pub record Samples (found₀ owners₀ found owners : List ℕ) (count x : ℕ) : Type 0 where
    pub through : x ≤ samples
    pub few : count ≤ x
    pub left : Left found₀ 0 (covering_rows rows position samples (run_at chosen bounds)) found count (found_from x)
    pub owned : Left owners₀ 0 (covering_samples rows position samples (run_at chosen bounds)) owners count (owners_from x)

  all_fit : (d : List ℕ) (f : ℕ → Option ℕ) → samples ≤ length d → length d < 2 ^ 64 → 0 + length (filter_map f (numbers_from 0 samples)) < 2 ^ 64
  all_fit d f h k = omega (arith, filter_map_few f (numbers_from 0 samples), length_numbers 0 samples)

  pub samples_start : {found₀ owners₀ : List ℕ} → samples ≤ length found₀ → length found₀ < 2 ^ 64 → samples ≤ length owners₀ → length owners₀ < 2 ^ 64
      → Samples found₀ owners₀ found₀ owners₀ 0 0
  unfolding found_from owners_from covering_rows covering_samples
  samples_start {found₀} {owners₀} h k h' k' = record {
    through = omega arith;
    few = omega arith;
    left = rw sub-zero (start (all_fit found₀ _ h k));
    owned = rw sub-zero (start (all_fit owners₀ _ h' k'));
  }

  module _ {found₀ owners₀ found owners : List ℕ} {count x : ℕ} (s : Samples found₀ owners₀ found owners count x) where
    module _ (h : x < samples) where
      pub sample_one : {site : ℕ} → last_covering rows position (run_at chosen bounds x) ≡ some site
          → Samples found₀ owners₀ (set found count site) (set owners count x) (count + 1) (x + 1)
      unfolding found_from owners_from
      sample_one {site} e = record {
        through = omega arith;
        few = omega (arith, s.few);
        left =
            one (record { next = refl; laid = refl })
            (recast (ap (filter_map _) (numbers_next samples x h) ∙ filter_map-cons-some _ x _ e) s.left);
        owned =
            one (record { next = refl; laid = refl })
            (recast (ap (filter_map _) (numbers_next samples x h) ∙ filter_map-cons-some _ x _ (ap (map (λ _. x)) e)) s.owned);
      }

      pub sample_none : last_covering rows position (run_at chosen bounds x) ≡ none → Samples found₀ owners₀ found owners count (x + 1)
      unfolding found_from owners_from
      sample_none e = record {
        through = omega arith;
        few = omega (arith, s.few);
        left = recast (ap (filter_map _) (numbers_next samples x h) ∙ filter_map-cons-none _ x _ e) s.left;
        owned = recast (ap (filter_map _) (numbers_next samples x h) ∙ filter_map-cons-none _ x _ (ap (map (λ _. x)) e)) s.owned;
      }

    pub samples_end : samples ≤ x
        → Found found₀ (covering_rows rows position samples (run_at chosen bounds)) found
        owners₀ (covering_samples rows position samples (run_at chosen bounds)) owners count
    unfolding found_from owners_from filter_map
    samples_end h =
        let l = done (recast (ap (filter_map _) (numbers_end samples x h)) s.left) in
        let o = done (recast (ap (filter_map _) (numbers_end samples x h)) s.owned) in
        record { count = l.next ∙ zero-add _; stored = l.laid; owned = o.laid }

    pub samples_length : length found ≡ length found₀
    samples_length = left_length s.left

    pub owners_length : length owners ≡ length owners₀
    owners_length = left_length s.owned

-- ---- what is found in runs that are known

module _ {list bounds : List ℕ} {samples : ℕ} {run : ℕ → List ℕ} (r : Runs list bounds samples run) (rows : List ℕ) (position : ℕ) where
  run_known : (x : ℕ) → x ∈ numbers_from 0 samples → run_at list bounds x ≡ run x
  run_known x m = r.each x (let b = member_numbers 0 samples m in omega (arith, b.1))

  pub rows_known : covering_rows rows position samples (run_at list bounds) ≡ covering_rows rows position samples run
  unfolding covering_rows
  rows_known = filter_map_same _ _ (numbers_from 0 samples) (λ x m. ap (last_covering rows position) (run_known x m))

  pub samples_known : covering_samples rows position samples (run_at list bounds) ≡ covering_samples rows position samples run
  unfolding covering_samples
  samples_known =
      filter_map_same _ _ (numbers_from 0 samples)
      (λ x m. ap (λ (t : List ℕ). map (λ _. x) (last_covering rows position t)) (run_known x m))

  pub found_known : {before after samples-before samples-after : List ℕ} {n : ℕ}
      → Found before (covering_rows rows position samples (run_at list bounds)) after
      samples-before (covering_samples rows position samples (run_at list bounds)) samples-after n
      → Found before (covering_rows rows position samples run) after samples-before (covering_samples rows position samples run) samples-after n
  found_known f = rw (← rows_known, ← samples_known) f
