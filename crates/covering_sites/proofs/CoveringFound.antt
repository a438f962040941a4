-- The sites found in the runs of a contig are the covering sites of the cohort, and the runs hold the contig's sites.
use Prim.Native.Nat.{◌+◌, ◌-◌, ◌<◌, ◌≤◌, ℕ}
use borrow.Author.Tests.{eq-eqb, eqb-true}
use lib.Dec.{eqb, leb}
use lib.ListN.{get_or, length}
use mathlib.Core.Bool.{Bool, ◌&&◌, cond, false, true}
use mathlib.Core.List.Memᴰ
use mathlib.Core.List.{List, [], ◌∷◌, filter_map, flat_map, map, map-filter_map}
use mathlib.Core.Logic.{◌⊎◌, inl, inr, ⊎_elim}
use mathlib.Core.Option
use mathlib.Core.Option.{Option, none, some}
use mathlib.Core.Path.{◌∙◌, ◌≡◌, ap, refl, sym}
use native.Mathlib.Nat.{eq-or-lt_of_le}
use native.Mathlib.Omega.{arith}
use Rattle.definitions.specs.Bytes.{same_bytes}
use Rattle.definitions.specs.Cohort.{Cohort, Site}
use Rattle.definitions.specs.CoveringSites.{covering_site, covering_sites, covers}
use Rattle.definitions.specs.Limits.{max_sites}
use Rattle.definitions.specs.Lists.{filter_by, first_greatest, numbers_from}
use Rattle.kv_text.specs.Fields.{between}
use Rattle.laws.proofs.Every.{Pairwise, alone, before_all, every_member, numbers_ascend, pairwise_at, pairwise_filter}
use Rattle.laws.proofs.Greatest.{greatest_is, greatest_map}
use Rattle.laws.proofs.Members.{◌∈◌, cons_cases, filter_by_map, filter_member, flat_map_member, length_numbers, member_filter, member_filter_map, member_flat_map, member_numbers, nil_of, numbers_member}
use Rattle.laws.proofs.Tests.{both, both_of, not_none, some_same}
use Rattle.tables.proofs.SameContig.{same_contig_lem}
use Rattle.tables.specs.Tables.{SiteRows, column, part_at, site_at}
use Rattle.covering_sites.proofs.Keys.{key_later, key_starts, keys_ascend, keys_member, member_keys}
use Rattle.covering_sites.proofs.Same.{filter_map_few, filter_map_same}
use Rattle.covering_sites.proofs.Search.{part_at_lem, part_length}
use Rattle.covering_sites.specs.Covering.{StartsAscend, contig_sites, covering_rows, covering_samples, key_site, last_covering, last_from, on_contig, row_covers, sample_keys, sample_sites, site_key}
use Rattle.covering_sites.specs.Runs.{Runs, run_at}

-- ---- the last that passes a test

module _ (q : ℕ → Bool) where
  -- it is one of the numbers, and passes, or none does and it is what was given
  last_found : (l : List ℕ) (so_far : Option ℕ) {a : ℕ} → last_from q so_far l ≡ some a → (so_far ≡ some a) ⊎ ((a ∈ l) × (q a ≡ true))
  unfolding last_from
  last_found [] so_far e = inl e
  last_found (x ∷ l) so_far {a} e =
      ⊎_elim (λ h. here (q x) refl h) (λ h. inr (Memᴰ.tail h.0, h.1)) (last_found l (cond (q x) (some x) so_far) e)
    where
      here : (b : Bool) → q x ≡ b → cond b (some x) so_far ≡ some a → (so_far ≡ some a) ⊎ ((a ∈ x ∷ l) × (q a ≡ true))
      here true p h = let same = some_same h in inr (Memᴰ.head (sym same), rw (← same) p)
      here false p h = inl h

  -- there is none only where none passes
  last_none : (l : List ℕ) (so_far : Option ℕ) → last_from q so_far l ≡ none → (so_far ≡ none) × ((b : ℕ) → b ∈ l → q b ≡ true → ⊥)
  unfolding last_from
  last_none [] so_far e = (e, λ b m p. absurd (Memᴰ.not-nil m))
  last_none (x ∷ l) so_far e =
      let (o, rest) = last_none l (cond (q x) (some x) so_far) e in
      (here (q x) o, λ b m p. cons_cases m (λ same. not_none (sym (rw (← same, p) at o))) (λ n. rest b n p))
    where
      here : (b : Bool) → cond b (some x) so_far ≡ none → so_far ≡ none
      here true h = not_none (sym h)
      here false h = h

  -- where values ascend none that passes has a greater one
  last_greatest : (value : ℕ → ℕ) {l : List ℕ} → Pairwise (λ i j. value i ≤ value j) l → (so_far : Option ℕ) {a : ℕ} → last_from q so_far l ≡ some a
      → (b : ℕ) → b ∈ l → q b ≡ true → value b ≤ value a
  unfolding last_from
  last_greatest value alone so_far {a = a} e b m p = elim m [ ]
  last_greatest value (before_all {x = x} {xs = l} h hs) so_far {a} e b m p =
      cons_cases m here (λ n. last_greatest value hs (cond (q x) (some x) so_far) e b n p)
    where
      here : b ≡ x → value b ≤ value a
      here same =
          ⊎_elim (λ o. let is = some_same (rw (rw (same) at p) at o) in rw (same, is) (omega arith)) (λ k. rw same (every_member k.0 h))
          (last_found l (cond (q x) (some x) so_far) e)

-- ---- the runs of a contig

-- a site in the run of a sample on a contig
pub record InRun (rows : List ℕ) (count contig sample i : ℕ) : Type 0 where
  pub known : i < count
  pub its_sample : column 0 rows i ≡ sample
  pub its_contig : column 1 rows i ≡ contig

module _ (rows : List ℕ) {count : ℕ} (few : count ≤ max_sites) (contig : ℕ) where
  pub member_run : (sample : ℕ) {i : ℕ} → i ∈ contig_sites rows count contig sample → InRun rows count contig sample i
  unfolding on_contig sample_sites
  member_run sample {i} m =
      let (m', p) = member_filter (λ j. eqb (column 1 rows j) contig) (map key_site (sample_keys rows count sample)) m in
      let (m'', q) = member_filter (λ j. eqb (column 0 rows j) sample) (numbers_from 0 count) (member_keys rows few sample m') in
      let b = member_numbers 0 count m'' in
      record { known = omega (arith, b.1); its_sample = eqb-true _ _ q; its_contig = eqb-true _ _ p }

  pub run_member : {sample i : ℕ} → InRun rows count contig sample i → i ∈ contig_sites rows count contig sample
  unfolding on_contig sample_sites
  run_member {sample} r =
      filter_member _ _ (keys_member rows few sample
      (filter_member _ _ (numbers_member 0 count (omega arith) (omega (arith, r.known))) (eq-eqb _ _ r.its_sample)))
      (eq-eqb _ _ r.its_contig)

  -- all runs together hold the sites of the contig
  pub contig_member : (samples : ℕ) {i : ℕ} → i ∈ flat_map (contig_sites rows count contig) (numbers_from 0 samples)
      → (i < count) × (column 1 rows i ≡ contig)
  contig_member samples m =
      let (x, n, m') = member_flat_map (contig_sites rows count contig) (numbers_from 0 samples) m in
      let r = member_run x m' in
      (r.known, r.its_contig)

  pub member_contig : (samples : ℕ) {i : ℕ} → column 0 rows i < samples → i < count → column 1 rows i ≡ contig
      → i ∈ flat_map (contig_sites rows count contig) (numbers_from 0 samples)
  member_contig samples {i} l h e =
      flat_map_member (contig_sites rows count contig) (numbers_from 0 samples)
      (numbers_member 0 samples (omega arith) (omega (arith, l)))
      (run_member (record { known = h; its_sample = refl; its_contig = e }))

  module _ (position : ℕ) where
    -- the site that is found for a sample is one of its run, and covers the position
    pub last_in_run : (sample : ℕ) {i : ℕ} → last_covering rows position (contig_sites rows count contig sample) ≡ some i
        → InRun rows count contig sample i × (row_covers rows position i ≡ true)
    unfolding last_covering
    last_in_run sample e =
        ⊎_elim (λ o. not_none o) (λ r. (member_run sample r.0, r.1)) (last_found (row_covers rows position) (contig_sites rows count contig sample) none e)

    pub member_found : (samples : ℕ) {i : ℕ} → i ∈ covering_rows rows position samples (contig_sites rows count contig)
        → (x : ℕ) × (x < samples) × InRun rows count contig x i × (row_covers rows position i ≡ true)
    unfolding covering_rows
    member_found samples m =
        let (x, n, e) = member_filter_map _ (numbers_from 0 samples) m in
        let b = member_numbers 0 samples n in
        let (r, p) = last_in_run x e in
        (x, omega (arith, b.1), r, p)

    -- the samples whose runs have one are those of the sites found
    pub found_owners : (samples : ℕ) → covering_samples rows position samples (contig_sites rows count contig)
        ≡ map (column 0 rows) (covering_rows rows position samples (contig_sites rows count contig))
    unfolding covering_rows covering_samples
    found_owners samples =
        filter_map_same _ _ (numbers_from 0 samples) (λ x m. go x (last x) refl) ∙ sym (map-filter_map last (column 0 rows) (numbers_from 0 samples))
      where
        last : ℕ → Option ℕ
        last x = last_covering rows position (contig_sites rows count contig x)

        go : (x : ℕ) (o : Option ℕ) → last x ≡ o → Option.map (λ _. x) o ≡ Option.map (column 0 rows) o
        go x none e = refl
        go x (some i) e = ap some (sym (last_in_run x e).0.its_sample)

-- ---- the sites that cover a position

-- a test of the sample, one of the contig and two of the position, in either grouping
regroup : (a b c d : Bool) → a && (b && (c && d)) ≡ a && (b && c && d)
regroup true true c d = refl
regroup true false c d = refl
regroup false b c d = refl

module _ {s rows : List ℕ} {sites : List Site} (t : SiteRows s rows sites) (few : length sites ≤ max_sites) {first : ℕ} (h : first < length sites)
    (e : column 1 rows first ≡ first) (position x : ℕ) where
  -- the site is the sample's, is on the contig and covers the position
  abbrev taken : ℕ → Bool
  taken i = eqb (site_at s rows i).sample x && covers (part_at 7 8 s rows first) position (site_at s rows i)

  test : (i : ℕ) → i ∈ numbers_from 0 (length sites)
      → eqb (column 0 rows i) x && (eqb (column 1 rows i) first && row_covers rows position i) ≡ taken i
  unfolding row_covers covers site_at
  test i m =
      rw (same_contig_lem t i first (let b = member_numbers 0 (length sites) m in omega (arith, b.1)) h e)
      (regroup (eqb (column 0 rows i) x) (same_bytes (part_at 7 8 s rows first) (part_at 7 8 s rows i))
      (leb (column 2 rows i) position) (leb position (column 3 rows i)))

  -- such sites in file order
  abbrev all : List ℕ
  all = filter_by taken (numbers_from 0 (length sites))

  abbrev run : List ℕ
  run = contig_sites rows (length sites) first x

  in_run : {i : ℕ} → i ∈ all → (i < length sites) × (i ∈ run) × (row_covers rows position i ≡ true)
  in_run {i} m =
      let (n, p) = member_filter taken (numbers_from 0 (length sites)) m in
      let b = member_numbers 0 (length sites) n in
      let (own, on) = both_of _ _ (test i n ∙ p) in
      let (here, over) = both_of _ _ on in
      let known : i < length sites = omega (arith, b.1) in
      (known, run_member rows few first (record { known = known; its_sample = eqb-true _ _ own; its_contig = eqb-true _ _ here }), over)

  from_run : {i : ℕ} → i ∈ run → row_covers rows position i ≡ true → i ∈ all
  from_run {i} m p =
      let r = member_run rows few first x m in
      let n : i ∈ numbers_from 0 (length sites) = numbers_member 0 (length sites) (omega arith) (omega (arith, r.known)) in
      filter_member taken (numbers_from 0 (length sites)) n
      (sym (test i n) ∙ both (eq-eqb _ _ r.its_sample) (both (eq-eqb _ _ r.its_contig) p))

  -- the last of the run that covers is the one with the greatest start, of equal starts the first in the file
  last_is : last_covering rows position run ≡ first_greatest (column 2 rows) all
  unfolding last_covering first_greatest
  last_is = go (last_from (row_covers rows position) none run) refl
    where
      go : (o : Option ℕ) → last_from (row_covers rows position) none run ≡ o → o ≡ first_greatest (column 2 rows) all
      go none none_covers =
          let no_site : all ≡ [] = nil_of all (λ i m. let r = in_run m in (last_none _ run none none_covers).1 i r.1 r.2) in
          rw no_site
      go (some a) found =
          ⊎_elim (λ o. not_none o) (λ there. let (m, p) = there in sym (
          greatest_is (column 2 rows) (pairwise_filter taken (numbers_ascend 0 (length sites))) (from_run m p)
          (λ b n before. key_later rows (below a (from_run m p)) before (greatest a found b n))
          (λ b n behind. key_starts rows b a (greatest a found b n))))
          (last_found _ run none found)
        where
          below : (a : ℕ) → a ∈ all → a < max_sites
          below a m = omega (arith, (in_run m).0)

          greatest : (a : ℕ) → last_from (row_covers rows position) none run ≡ some a → (b : ℕ) → b ∈ all → site_key rows b ≤ site_key rows a
          greatest a found b n =
              let r = in_run n in
              last_greatest _ (site_key rows) (keys_ascend rows few x first) none found b r.1 r.2

  -- that of one sample
  one_found : Option.map (site_at s rows) (last_covering rows position run) ≡ covering_site sites (part_at 7 8 s rows first) position x
  unfolding covering_site site_at
  one_found =
      let own : Site → Bool = λ z. eqb z.sample x && covers (part_at 7 8 s rows first) position z in
      ap (Option.map (site_at s rows)) last_is
      ∙ sym (greatest_map (site_at s rows) (λ (z : Site). z.start) all)
      ∙ ap (first_greatest (λ (z : Site). z.start)) (sym (filter_by_map (site_at s rows) own (numbers_from 0 (length sites))))
      ∙ sym (ap (λ (l : List Site). first_greatest (λ (z : Site). z.start) (filter_by own l)) t.read)

-- those of all samples: what is found in the runs of a contig, which is named by its first site, are the cohort's covering sites
pub covering_found : (c : Cohort) {s rows : List ℕ} {samples first : ℕ} → SiteRows s rows c.sites → length c.sites ≤ max_sites
    → samples ≡ length c.names → first < length c.sites → column 1 rows first ≡ first → (position : ℕ)
    → map (site_at s rows) (covering_rows rows position samples (contig_sites rows (length c.sites) first))
    ≡ covering_sites c (part_at 7 8 s rows first) position
unfolding covering_rows covering_sites
covering_found c {s} {rows} {samples} {first} t few n h e position =
    map-filter_map _ (site_at s rows) (numbers_from 0 samples)
    ∙ filter_map_same _ _ (numbers_from 0 samples) (λ x m. one_found t few h e position x)
    ∙ ap (λ (k : ℕ). filter_map (covering_site c.sites (part_at 7 8 s rows first) position) (numbers_from 0 k)) n

-- at most one for each sample
pub found_few : (rows : List ℕ) (position samples : ℕ) (run : ℕ → List ℕ) → length (covering_rows rows position samples run) ≤ samples
unfolding covering_rows
found_few rows position samples run =
    omega (
      arith,
      filter_map_few (λ x. last_covering rows position (run x)) (numbers_from 0 samples),
      length_numbers 0 samples,
    )

-- in the runs of a contig starts ascend
module _ (rows : List ℕ) {count : ℕ} (few : count ≤ max_sites) (contig : ℕ) {chosen bounds : List ℕ} {samples : ℕ}
    (r : Runs chosen bounds samples (contig_sites rows count contig)) where
  in_order_lem : (x : ℕ) → x < samples → (j k : ℕ) → get_or bounds x 0 ≤ j → j < k → k < get_or bounds (x + 1) 0
      → site_key rows (get_or chosen j 0) ≤ site_key rows (get_or chosen k 0)
  unfolding run_at
  in_order_lem x l j k a up b =
      let long = part_length chosen (get_or bounds x 0) (get_or bounds (x + 1) 0) (r.bounded.within x l) in
      let ascends : Pairwise (λ m n. site_key rows m ≤ site_key rows n) (between chosen (get_or bounds x 0) (get_or bounds (x + 1) 0)) =
      rw (r.each x l) (keys_ascend rows few x contig) in
      let here = pairwise_at (j - get_or bounds x 0) (k - get_or bounds x 0) 0 (omega arith) (omega arith) ascends in
      rw (
        part_at_lem chosen (get_or bounds x 0) (get_or bounds (x + 1) 0) j a (omega arith),
        part_at_lem chosen (get_or bounds x 0) (get_or bounds (x + 1) 0) k (omega arith) b,
      ) at here

  pub starts_ascend : StartsAscend rows chosen bounds samples
  starts_ascend = record {
    ascend = λ x l j k a up b. ⊎_elim (λ same. rw same (omega arith))
        (λ less. key_starts rows (get_or chosen j 0) (get_or chosen k 0) (in_order_lem x l j k a less b)) (eq-or-lt_of_le up);
  }
