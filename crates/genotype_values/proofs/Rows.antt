-- PL laid by rows: a row has the pairs with the same higher allele. What is left of a row, and which rows are left.
-- Assumes nothing.
use Prim.Native.Nat.{◌*◌, ◌+◌, ◌-◌, ◌<◌, ◌≤◌, max, min, suc, ℕ}
use lib.ListN.{get_or, length, length-map, set}
use lib.Seq.{length-sets, sets}
use mathlib.Core.List.{List, [], ◌∷◌, flat_map, map}
use mathlib.Core.Path.{◌∙◌, ◌≡◌, ap, refl, sym}
use native.Mathlib.Decide.{dec_le}
use native.Mathlib.Nat.{add-zero, mul-le-mul, sub-zero}
use native.Mathlib.Numerals.{add-one}
use native.Mathlib.Omega.{arith}
use Rattle.definitions.specs.Alleles.{genotype_count}
use Rattle.definitions.specs.Genotypes.{genotype_index, genotype_index_any, genotype_pairs, remapped_pl}
use Rattle.definitions.specs.Lists.{numbers_from}
use Rattle.laws.proofs.Genotypes.{genotype_pairs_at}
use Rattle.laws.proofs.Members.{length_numbers, map_composed, map_flat_map}
use Rattle.kv_write.proofs.Laying.{sets_append, sets_past}
use Rattle.genotype_values.specs.Remapped.{pl_row}
use Rattle.genotype_values.specs.Values.{mapped_place}
use Rattle.genotype_values.proofs.Mapped.{count_is, pl_by_pairs, pl_at, product_bound}

-- the place of a pair

-- it stands behind that of REF and the higher allele
pub place_behind : (j k : ℕ) → j ≤ k → genotype_index_any 0 k + j ≡ genotype_index_any j k
unfolding genotype_index_any genotype_index
place_behind j k h =
    let a : max 0 k ≡ max j k = omega arith in
    let b : min j k ≡ j = omega arith in
    let z : min 0 k ≡ 0 = omega arith in
    rw (a, b, z, add-zero)

-- of allele numbers that are bytes
pub row_bound : (k : ℕ) → k < 256 → genotype_index_any 0 k ≤ 255 * 256
unfolding genotype_index_any genotype_index genotype_count
row_bound k h =
    let a : max 0 k ≡ k = omega arith in
    let product : k * suc k ≤ 255 * 256 = mul-le-mul {n₂ = 255} {m₂ = 256} (omega arith) h in
    rw a (omega arith)

-- numbers

numbers_next : (n i : ℕ) → i < n → numbers_from i (n - i) ≡ i ∷ numbers_from (i + 1) (n - (i + 1))
unfolding numbers_from
numbers_next n i h =
    let e : n - i ≡ suc (n - (i + 1)) = omega arith in
    rw (e, add-one)

numbers_end : (n i : ℕ) → n ≤ i → numbers_from i (n - i) ≡ []
unfolding numbers_from
numbers_end n i h =
    let e : n - i ≡ 0 = omega arith in
    rw e

-- a row

-- the record's PL at a pair
abbrev pl_of : List ℕ → List ℕ → ℕ → ℕ → ℕ
pl_of allele_map pl high low = pl_at allele_map pl (record { low = low; high = high })

pub row_length_lem : (allele_map pl : List ℕ) (high : ℕ) → length (pl_row allele_map pl high) ≡ suc high
unfolding pl_row
row_length_lem allele_map pl high = length-map (numbers_from 0 (suc high)) (pl_of allele_map pl high) ∙ length_numbers 0 (suc high)

-- what is left of it from a lower allele on
abbrev row_from : List ℕ → List ℕ → ℕ → ℕ → List ℕ
row_from allele_map pl high low = map (pl_of allele_map pl high) (numbers_from low (suc high - low))

-- a row was to be laid over what stood there, and laying what is left of it, from a lower allele on, comes to the same
pub record RowLeft (allele_map pl : List ℕ) (high : ℕ) (before : List ℕ) (at : ℕ) (values : List ℕ) (low : ℕ) : Type 0 where
  pub same : sets values (at + low) (row_from allele_map pl high low) ≡ sets before at (pl_row allele_map pl high)

module _ {allele_map pl : List ℕ} {high : ℕ} {before : List ℕ} {at : ℕ} where
  pub row_start : RowLeft allele_map pl high before at before 0
  unfolding pl_row
  row_start = record { same = rw (add-zero, sub-zero) }

  pub row_same_length : {values : List ℕ} {low : ℕ} → RowLeft allele_map pl high before at values low → length values ≡ length before
  row_same_length {values} {low} l =
      sym (length-sets values (at + low) (row_from allele_map pl high low)) ∙ ap length l.same ∙ length-sets before at (pl_row allele_map pl high)

  -- the value of the next pair, by the own alleles a and b of its two
  pub row_next : {values values' : List ℕ} {low place a b x : ℕ} → low < suc high → a ≡ get_or allele_map low 0 → b ≡ get_or allele_map high 0
      → place ≡ genotype_index_any a b → x ≡ get_or pl place 0 → values' ≡ set values (at + low) x
      → RowLeft allele_map pl high before at values low → RowLeft allele_map pl high before at values' (low + 1)
  unfolding mapped_place
  row_next {low = low} h p q e f s l =
      let next : at + (low + 1) ≡ suc (at + low) = omega arith in
      record { same = rw (s, f, e, p, q, next) (rw (numbers_next (suc high) low h) at l.same) }

  -- no pair is left, or no room
  pub row_end : {values : List ℕ} {low : ℕ} → min (high + 1) (length before - at) ≤ low → RowLeft allele_map pl high before at values low
      → values ≡ sets before at (pl_row allele_map pl high)
  row_end {values} {low} h l = go (dec_le (suc high) low)
    where
      go : Dec (suc high ≤ low) → values ≡ sets before at (pl_row allele_map pl high)
      go (yes all) = rw (numbers_end (suc high) low all) at l.same
      go (no some_left) =
          let full : length values ≤ at + low = omega (arith, row_same_length l) in
          sym (sets_past values (at + low) (row_from allele_map pl high low) full) ∙ l.same

-- rows

row_of_pairs : (allele_map pl : List ℕ) (high : ℕ) → map (pl_at allele_map pl) (genotype_pairs_at high) ≡ pl_row allele_map pl high
unfolding pl_row genotype_pairs_at
row_of_pairs allele_map pl high =
    sym (map_composed (λ low. record { low = low; high = high }) (pl_at allele_map pl) (pl_of allele_map pl high) (λ low. refl) (numbers_from 0 (suc high)))

rows_of_pairs : (allele_map pl highs : List ℕ) → map (pl_at allele_map pl) (flat_map genotype_pairs_at highs) ≡ flat_map (pl_row allele_map pl) highs
rows_of_pairs allele_map pl highs = map_flat_map (pl_at allele_map pl) genotype_pairs_at highs ∙ simp (row_of_pairs allele_map pl)

-- PL is its rows, one behind the other
pub pl_by_rows : (allele_map pl : List ℕ) → flat_map (pl_row allele_map pl) (numbers_from 0 (length allele_map)) ≡ remapped_pl allele_map pl
unfolding genotype_pairs genotype_pairs_at
pl_by_rows allele_map pl = sym (rows_of_pairs allele_map pl (numbers_from 0 (length allele_map))) ∙ pl_by_pairs allele_map pl

-- what is left of them from a higher allele on
abbrev rows_from : List ℕ → List ℕ → ℕ → List ℕ
rows_from allele_map pl high = flat_map (pl_row allele_map pl) (numbers_from high (length allele_map - high))

-- PL was to be laid over what stood there, and laying the rows that are left, from a higher allele on, comes to the same
pub record RowsLeft (allele_map pl before values : List ℕ) (at high : ℕ) : Type 0 where
  pub within : high ≤ length allele_map
  pub place : at ≡ genotype_count high
  pub same : sets values at (rows_from allele_map pl high) ≡ sets before 0 (remapped_pl allele_map pl)

module _ {allele_map pl before : List ℕ} where
  pub rows_start : RowsLeft allele_map pl before before 0 0
  unfolding genotype_count
  rows_start = record { within = omega arith; place = refl; same = rw (sub-zero, pl_by_rows allele_map pl) }

  pub rows_same_length : {values : List ℕ} {at high : ℕ} → RowsLeft allele_map pl before values at high → length values ≡ length before
  rows_same_length {values} {at} {high} l =
      sym (length-sets values at (rows_from allele_map pl high)) ∙ ap length l.same ∙ length-sets before 0 (remapped_pl allele_map pl)

  pub rows_next : {values values' : List ℕ} {at high : ℕ} → high < length allele_map → values' ≡ sets values at (pl_row allele_map pl high)
      → RowsLeft allele_map pl before values at high → RowsLeft allele_map pl before values' (at + (high + 1)) (high + 1)
  unfolding genotype_count flat_map
  rows_next {values} {values'} {at} {high} h s l =
      let behind : at + (high + 1) ≡ at + length (pl_row allele_map pl high) = omega (arith, row_length_lem allele_map pl high) in
      record {
        within = omega arith;
        place = rw add-one (omega (arith, l.place));
        same =
            rw (s, behind, ← sets_append values at (pl_row allele_map pl high)) (rw (numbers_next (length allele_map) high h) at l.same);
      }

  pub rows_end : {values : List ℕ} {at high : ℕ} → length allele_map ≤ high → RowsLeft allele_map pl before values at high
      → values ≡ sets before 0 (remapped_pl allele_map pl)
  unfolding flat_map
  rows_end {high = high} h l = rw (numbers_end (length allele_map) high h) at l.same

  pub rows_count : {values : List ℕ} {at high : ℕ} → length allele_map ≤ high → RowsLeft allele_map pl before values at high
      → at ≡ genotype_count (length allele_map)
  rows_count {high = high} h l =
      let e : high ≡ length allele_map = omega (arith, l.within) in
      l.place ∙ ap genotype_count e

  -- of at most 16 alleles
  pub few_places : {values : List ℕ} {at high : ℕ} → length allele_map ≤ 16 → RowsLeft allele_map pl before values at high → at ≤ 136
  few_places {high = high} few l = omega (arith, l.within, l.place, count_is high, product_bound high (omega (arith, l.within)))
