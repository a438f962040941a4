-- A row stored behind the others: the table then has one marker more.
use Prim.Native.Nat.{◌*◌, ◌+◌, ◌<◌, ◌≤◌, suc, zero, ℕ}
use lib.ListN.{drop, get_or, length}
use lib.Seq.{sets}
use mathlib.Core.List.{List, [], ◌∷◌, map, map-map}
use mathlib.Core.Path.{◌∙◌, ◌≡◌, ap, refl, sym}
use native.Mathlib.Decide.{dec_lt}
use native.Mathlib.Omega.{arith}
use Rattle.definitions.specs.Lists.{numbers_from}
use Rattle.definitions.specs.SelectionSheet.{Marker}
use Rattle.kv_text.specs.Fields.{between}
use Rattle.laws.proofs.AllelesAsRead.{allele_as_read}
use Rattle.laws.proofs.Every.{Every, every_map, every_of_map, map_every}
use Rattle.site_groups.specs.SiteGroups.{bytes_of}
use Rattle.tables.proofs.Parts.{get_d_past}
use Rattle.tables.proofs.Stored.{drop_sets, get_before, get_here, map_same}
use Rattle.marker_groups.specs.Markers.{AftersTo, RowsSound, after_at, after_names, column, marker_at, markers_in, name_of, part_at, row_of}
use Rattle.marker_groups.specs.declared.MarkerLines.{MarkerLines}

pub column_past : (k : ℕ) (rows : List ℕ) (marker : ℕ) → length rows ≤ marker * 13 + k → 0 ≡ column k rows marker
unfolding column
column_past k rows marker h = sym (get_d_past rows _ h)

-- ---- a row

module _ (rows row : List ℕ) (count : ℕ) (whole : length row ≡ 13) (room : count * 13 + 13 ≤ length rows) where
  abbrev stored : List ℕ
  stored = sets rows (count * 13) row

  column_before : (k marker : ℕ) → k < 13 → marker < count → column k stored marker ≡ column k rows marker
  unfolding column
  column_before k marker h b = get_before row rows (count * 13) (marker * 13 + k) (omega arith)

  column_here : (k : ℕ) → k < 13 → column k stored count ≡ get_or row k 0
  unfolding column
  column_here k h = get_here row rows (count * 13) k (omega arith) (omega arith)

  rest_same : drop ((count + 1) * 13) stored ≡ drop ((count + 1) * 13) rows
  rest_same = drop_sets row rows (count * 13) ((count + 1) * 13) (omega arith)

  part_before : (s : List ℕ) (from to marker : ℕ) → from < 13 → to < 13 → marker < count → part_at from to s stored marker ≡ part_at from to s rows marker
  unfolding part_at
  part_before s from to marker f t b = rw (column_before from marker f b, column_before to marker t b)

  part_here : (s : List ℕ) (from to : ℕ) → from < 13 → to < 13 → part_at from to s stored count ≡ between s (get_or row from 0) (get_or row to 0)
  unfolding part_at
  part_here s from to f t = rw (column_here from f, column_here to t)

  -- ---- the markers before

  module _ (sound : RowsSound rows count) where
    after_before : (marker : ℕ) → marker < count → after_at stored marker ≡ after_at rows marker
    unfolding after_at
    after_before marker b =
        let few = sound.after_few marker b in
        rw (column_before 8 marker (omega arith) b)
        (map_same _ _ 0 (column 8 rows marker) (λ j h. column_before (9 + j) marker (omega arith) b))

    marker_before : (s : List ℕ) (marker : ℕ) → marker < count → marker_at s stored marker ≡ marker_at s rows marker
    unfolding marker_at
    marker_before s marker b =
        let names : map (name_of s stored) (after_at rows marker) ≡ map (name_of s rows) (after_at rows marker) =
        map_every (every_map (λ i h. part_before s 0 1 i (omega arith) (omega arith) (omega arith)) (sound.below marker b)) in
        rw (
          part_before s 0 1 marker (omega arith) (omega arith) b,
          part_before s 2 3 marker (omega arith) (omega arith) b,
          column_before 4 marker (omega arith) b,
          part_before s 5 6 marker (omega arith) (omega arith) b,
          column_before 7 marker (omega arith) b,
          after_before marker b,
          names,
        )

    markers_before : (s : List ℕ) → markers_in s stored count ≡ markers_in s rows count
    unfolding markers_in
    markers_before s = map_same _ _ 0 count (λ i h. marker_before s i (omega arith))

-- ---- a marker more

-- the marker of these lines
abbrev pub marker_from : List ℕ → MarkerLines → Marker
marker_from s l = record {
  marker = bytes_of s l.name;
  contig = bytes_of s l.contig;
  pos = l.pos;
  allele = allele_as_read (bytes_of s l.allele);
  weight = l.weight;
  after = after_names (bytes_of s l.after);
}

module _ (s rows : List ℕ) (count : ℕ) (l : MarkerLines) (names : ℕ) (numbers : List ℕ) (room : count * 13 + 13 ≤ length rows)
    (few : names ≤ 4) (to : AftersTo s rows count (bytes_of s l.after) numbers names) where
  abbrev row : List ℕ
  row = row_of l names numbers

  abbrev pub table_after : List ℕ
  table_after = sets rows (count * 13) row

  here : (k : ℕ) → k < 13 → column k table_after count ≡ get_or row k 0
  here = column_here rows row count refl room

  number_here : (j : ℕ) → j < 4 → column (9 + j) table_after count ≡ get_or numbers j 0
  number_here j h = here (9 + j) (omega arith) ∙ in_row j h
    where
      in_row : (j : ℕ) → j < 4 → get_or row (9 + j) 0 ≡ get_or numbers j 0
      in_row zero h = refl
      in_row (suc zero) h = refl
      in_row (suc (suc zero)) h = refl
      in_row (suc (suc (suc zero))) h = refl
      in_row (suc (suc (suc (suc j)))) h = absurd (omega arith)

  after_here : after_at table_after count ≡ map (λ j. get_or numbers j 0) (numbers_from 0 names)
  unfolding after_at
  after_here = rw (here 8 (omega arith)) (map_same _ _ 0 names (λ j h. number_here j (omega arith)))

  names_here : map (name_of s table_after) (after_at table_after count) ≡ after_names (bytes_of s l.after)
  names_here =
      rw after_here
      (map-map (name_of s table_after) (λ j. get_or numbers j 0) (numbers_from 0 names)
      ∙ map_every (every_map (λ j h. part_before rows row count refl room s 0 1 (get_or numbers j 0) (omega arith) (omega arith) h) to.below)
      ∙ to.named)

  pub marker_here : marker_at s table_after count ≡ marker_from s l
  unfolding marker_at
  marker_here = rw (
    part_here rows row count refl room s 0 1 (omega arith) (omega arith),
    part_here rows row count refl room s 2 3 (omega arith) (omega arith),
    here 4 (omega arith),
    part_here rows row count refl room s 5 6 (omega arith) (omega arith),
    here 7 (omega arith),
    names_here,
  )

  module _ (sound : RowsSound rows count) where
    pub markers_same : markers_in s table_after count ≡ markers_in s rows count
    markers_same = markers_before rows row count refl room sound s

    pub sound_more : count < 500 → RowsSound table_after (count + 1)
    sound_more more = record {
      few = omega arith;
      after_few = λ marker h. few_at marker h (dec_lt marker count);
      below = λ marker h. below_at marker h (dec_lt marker count);
    }
      where
        few_at : (marker : ℕ) → marker < count + 1 → Dec (marker < count) → column 8 table_after marker ≤ 4
        few_at marker h (yes b) = rw (column_before rows row count refl room 8 marker (omega arith) b) (sound.after_few marker b)
        few_at marker h (no b) =
            let last : marker ≡ count = omega arith in
            rw (last, here 8 (omega arith)) few

        below_at : (marker : ℕ) → marker < count + 1 → Dec (marker < count) → Every (λ i. i < marker) (after_at table_after marker)
        below_at marker h (yes b) = rw (after_before rows row count refl room sound marker b) (sound.below marker b)
        below_at marker h (no b) =
            let last : marker ≡ count = omega arith in
            rw (last, after_here) (every_of_map (λ j. get_or numbers j 0) to.below)

  pub rest_behind : drop ((count + 1) * 13) table_after ≡ drop ((count + 1) * 13) rows
  rest_behind = rest_same rows row count refl room
