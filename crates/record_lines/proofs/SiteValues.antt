-- A sound site's values as arrays hold them: its map over a record's alleles, AD and PL stand at the fronts of the arrays.
use Prim.Native.Nat.{◌*◌, ◌+◌, ◌≤◌, suc, ℕ}
use lib.ListN.{length, length-map, take}
use lib.Seq.{sets}
use mathlib.Core.Bool.{Bool, false, true}
use mathlib.Core.List.{List, []}
use mathlib.Core.Option.{Option, get_or, none, some}
use mathlib.Core.Path.{◌∙◌, ◌≡◌, ap, refl, sym}
use native.Mathlib.Nat.{mul-le-mul}
use native.Mathlib.Omega.{arith}
use Rattle.definitions.specs.Alleles.{Allele, genotype_count}
use Rattle.definitions.specs.Bytes.{comma, fields_of}
use Rattle.definitions.specs.Genotypes.{site_data}
use Rattle.definitions.specs.Lists.{only_if}
use Rattle.definitions.specs.MergedAlleles.{per_sample_map, remapped_alleles, sample_allele_of}
use Rattle.definitions.specs.Numbers.{number_list}
use Rattle.genotype_values.proofs.Best.{present_some}
use Rattle.genotype_values.proofs.Filled.{filled_front, filled_length, filled_within}
use Rattle.genotype_values.proofs.Said.{site_values}
use Rattle.genotype_values.specs.Remapped.{Filled}
use Rattle.genotype_values.specs.Values.{Printable, present, values_of}
use Rattle.kv_text.proofs.Numbers.{first_numbers_lem}
use Rattle.laws.proofs.AllelesAsRead.{allele_as_read, ref_alts_as_read}
use Rattle.laws.proofs.Every.{IfThere, if_there}
use Rattle.laws.proofs.SoundInput.{SoundSite}
use Rattle.laws.proofs.SoundValues.{Numbers, numbers_sound}
use Rattle.sample_alleles.proofs.Readings.{few_alleles}
use Rattle.sample_alleles.specs.Readings.{alleles_in}
use Rattle.tables.proofs.NumberLists.{first_in_row, first_in_text, in_row, in_text, stored_length, stored_some}
use Rattle.tables.specs.Tables.{ad_at, code_option, column, dp_at, first_numbers_at, is_stored, min_dp_at, numbers_at, part_at, pl_at, site_at, stored_numbers}
use Rattle.record_lines.specs.Samples.{SitePrintable}

-- ---- numbers of a list

-- the numbers of a list, none if it is missing
abbrev pub numbers_of : Option (List ℕ) → List ℕ
numbers_of list = get_or list []

module _ (k most : ℕ) (s rows : List ℕ) (site : ℕ) where
  -- what is read first is the list, wherever it stands
  pub first_read : IfThere (λ ns. first_numbers_at k most s rows site ≡ ns) (numbers_at k most s rows site)
  first_read = go (is_stored most (column k rows site)) refl
    where
      go : (b : Bool) → is_stored most (column k rows site) ≡ b → IfThere (λ ns. first_numbers_at k most s rows site ≡ ns) (numbers_at k most s rows site)
      go true e = rw (in_row k most s rows site e, first_in_row k most s rows site e) refl
      go false e = rw (in_text k most s rows site e, first_in_text k most s rows site e) (first_numbers_lem (part_at (k + 1) (k + 2) s rows site))

  -- an empty slice stands for a missing list
  pub numbers_present : present (numbers_of (numbers_at k most s rows site)) ≡ numbers_at k most s rows site
  unfolding only_if
  numbers_present = go (is_stored most (column k rows site)) refl
    where
      text : (o : Option (List ℕ)) → ((ns : List ℕ) → o ≡ some ns → Numbers ns) → present (numbers_of o) ≡ o
      text none h = refl
      text (some ns) h = present_some ns (h ns refl).some_number

      go : (b : Bool) → is_stored most (column k rows site) ≡ b → present (numbers_of (numbers_at k most s rows site)) ≡ numbers_at k most s rows site
      go true e =
          let more = stored_some most (column k rows site) e in
          rw (in_row k most s rows site e) (present_some (stored_numbers k rows site) (omega (arith, stored_length k most s rows site)))
      go false e =
          rw (in_text k most s rows site e)
          (text (number_list (part_at (k + 1) (k + 2) s rows site)) (numbers_sound (part_at (k + 1) (k + 2) s rows site)))

-- ---- the front of an array

-- so many values stand at the front
pub record Front (values after : List ℕ) (r : ℕ) : Type 0 where
  pub front : take r after ≡ values
  pub within : r ≤ length after
  pub long : r ≡ length (take r after)

filled : {values before after : List ℕ} {r : ℕ} → Filled values before after r → length values ≤ length before → Front values after r
filled p room = record { front = filled_front p room; within = filled_within p room; long = filled_length p room }

pub numbers_front : (list : Option (List ℕ)) (first before : List ℕ) {after : List ℕ} {r : ℕ} → IfThere (λ ns. first ≡ ns) list
    → IfThere (λ ns. length ns ≤ length before) list → r ≡ length (numbers_of list) → after ≡ sets before 0 first → Front (numbers_of list) after r
numbers_front none first before e room count laid = rw count (record { front = refl; within = omega arith; long = refl })
numbers_front (some ns) first before e room count laid = filled (record { laid = rw e at laid; count = count }) room

-- ---- a sound site

map_length : (remapped : List (Option Allele)) (alts : List Allele) → length (per_sample_map remapped alts) ≡ suc (length alts)
unfolding per_sample_map
map_length remapped alts = ap suc (length-map alts (sample_allele_of remapped))

count_few : (n : ℕ) → n ≤ 8 → genotype_count n ≤ 36
unfolding genotype_count
count_few n h = let square : n * suc n ≤ 8 * 9 = mul-le-mul {n₂ = 8} {m₂ = 9} h (omega arith) in omega arith

module _ (s rows : List ℕ) (site : ℕ) where
  -- the numbers of its alleles for those of a record
  abbrev pub map_of : ℕ → List ℕ → List ℕ → List ℕ
  map_of position ref alts = per_sample_map (remapped_alleles ref position (site_at s rows site)) (alleles_in alts)

  abbrev pub ad_of : List ℕ
  ad_of = numbers_of (ad_at s rows site)

  abbrev pub pl_of : List ℕ
  pl_of = numbers_of (pl_at s rows site)

  module _ (sound : SoundSite (site_at s rows site)) where
    alts_few : length (fields_of comma (part_at 11 12 s rows site)) ≤ 7
    unfolding site_at ref_alts_as_read
    alts_few = omega (arith, sound.alleles.at_most, length-map (fields_of comma (part_at 11 12 s rows site)) allele_as_read)

    ad_few : IfThere (λ ns. length ns ≤ 8) (ad_at s rows site)
    unfolding site_at ref_alts_as_read
    ad_few = if_there (ad_at s rows site) (λ ns c. omega (arith, c.at_most, sound.alleles.at_most)) sound.ad

    pl_few : IfThere (λ ns. length ns ≤ 36) (pl_at s rows site)
    unfolding site_at ref_alts_as_read
    pl_few = if_there (pl_at s rows site) (λ ns c. omega (arith, c.how_many, count_few _ sound.alleles.at_most)) sound.pl

    module _ (before : List ℕ) {after : List ℕ} {r : ℕ} where
      pub ad_front : length before ≡ 8 → r ≡ length ad_of → after ≡ sets before 0 (first_numbers_at 13 4 s rows site)
          → Front ad_of after r
      ad_front long = numbers_front (ad_at s rows site) _ before (first_read 13 4 s rows site) (rw long ad_few)

      pub pl_front : length before ≡ 36 → r ≡ length pl_of → after ≡ sets before 0 (first_numbers_at 16 10 s rows site)
          → Front pl_of after r
      pl_front long = numbers_front (pl_at s rows site) _ before (first_read 16 10 s rows site) (rw long pl_few)

      pub map_front : (position : ℕ) (ref alts : List ℕ) → length before ≡ 16 → length (fields_of comma alts) ≤ 15
          → r ≡ 1 + length (fields_of comma alts)
          → after ≡ sets before 0 (per_sample_map (take 256 (remapped_alleles ref position (site_at s rows site))) (alleles_in alts))
          → Front (map_of position ref alts) after r
      map_front position ref alts long few count laid =
          let n = length-map (fields_of comma alts) allele_as_read in
          let m = map_length (remapped_alleles ref position (site_at s rows site)) (alleles_in alts) in
          filled
          (record { laid = rw (few_alleles ref position s rows site (omega (arith, alts_few))) at laid; count = omega arith })
          (omega arith)

  by_row : (position : ℕ) (ref alts : List ℕ)
      → site_data ref (alleles_in alts) position (site_at s rows site)
      ≡ values_of (map_of position ref alts) (code_option (column 5 rows site)) (dp_at rows site) (min_dp_at rows site)
      (ad_at s rows site) (pl_at s rows site)
  unfolding site_at
  by_row position ref alts = site_values ref (alleles_in alts) position (site_at s rows site)

  -- what these values say of the sample is what the site says
  pub values_said : (position : ℕ) (ref alts : List ℕ) {gq dp mindp : Option ℕ} {m ad pl : List ℕ} → gq ≡ code_option (column 5 rows site)
      → dp ≡ dp_at rows site → mindp ≡ min_dp_at rows site → m ≡ map_of position ref alts → ad ≡ ad_of → pl ≡ pl_of
      → values_of m gq dp mindp (present ad) (present pl) ≡ site_data ref (alleles_in alts) position (site_at s rows site)
  values_said position ref alts g d l m a p =
      rw (g, d, l, m, a, p, numbers_present 13 4 s rows site, numbers_present 16 10 s rows site)
      (sym (by_row position ref alts))

  -- what `put_sample_data` asks
  pub printable : (position : ℕ) (ref alts : List ℕ) {gq dp mindp : Option ℕ} {m ad pl : List ℕ} {at : ℕ} → SitePrintable s rows site position ref alts at
      → gq ≡ code_option (column 5 rows site) → dp ≡ dp_at rows site → mindp ≡ min_dp_at rows site → m ≡ map_of position ref alts → ad ≡ ad_of → pl ≡ pl_of
      → Printable m gq dp mindp ad pl at
  printable position ref alts pre g d l m a p =
      let n = length-map (fields_of comma alts) allele_as_read in
      let k = ap length m ∙ map_length (remapped_alleles ref position (site_at s rows site)) (alleles_in alts) in
      record {
        alleles = omega arith;
        at_most = omega (arith, pre.few);
        fits = rw (values_said position ref alts g d l m a p) pre.fits;
      }
