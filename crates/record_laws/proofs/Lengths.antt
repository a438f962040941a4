-- How long what is printed is at most: numbers and lists of them, a sample's data, alleles, a record, and the header.
use Prim.Native.Nat.{◌*◌, ◌+◌, ◌<◌, ◌≤◌, suc, ℕ}
use Prim.Native.String.{String}
use lib.ListN.{length, length-append, length-map}
use mathlib.Core.List.{List, [], ◌++◌, ◌∷◌, flat_map}
use mathlib.Core.Option.{Option, none, some}
use mathlib.Core.Path.{◌≡◌, refl}
use native.Mathlib.Nat.{mul-le-mul}
use native.Mathlib.Omega.{arith}
use Rattle.definitions.specs.Alleles.{Allele, genotype_count, letters, non_ref, span_del, spelled, written_alleles}
use Rattle.definitions.specs.Bytes.{comma, joined_by, line_feed, slash, text}
use Rattle.definitions.specs.Genotypes.{AllelePair, SampleData, missing_data}
use Rattle.definitions.specs.Limits.{max_alleles, max_letters, max_samples}
use Rattle.definitions.specs.Lines.{key_of, line}
use Rattle.definitions.specs.Numbers.{decimal, decimals, max_number, written_or_missing}
use Rattle.definitions.specs.Printed.{printed_header, printed_record, printed_sample_data, printed_values, written_genotype}
use Rattle.definitions.specs.Records.{Record}
use Rattle.laws.proofs.Decimals.{InRange, decimal_length}
use Rattle.laws.proofs.Every.{Every, IfThere, also, every_map, every_of_map, flat_map_few, if_there, nothing}
use Rattle.laws.proofs.Genotypes.{genotype_count_some}
use Rattle.laws.proofs.SoundRecords.{SoundRecord, SoundSampleData}
use Rattle.laws.proofs.SoundValues.{Counted, GenotypeBelow, Name, SoundAllele}

-- the bounds: a sample's data, those of a block, a record, and the header
abbrev pub most_data : ℕ
most_data = 2048

abbrev pub most_block_data : ℕ
most_block_data = 128

abbrev pub most_record : ℕ
most_record = 200000

abbrev pub most_header : ℕ
most_header = 4096

-- ---- joined_by, written_or_missing and line

joined_few : (separator most : ℕ) {fs : List (List ℕ)} → Every (λ f. length f ≤ most) fs
    → length (joined_by separator fs) ≤ suc most * length fs
unfolding joined_by
joined_few separator most nothing = omega arith
joined_few separator most (also h nothing) = omega arith
joined_few separator most (also {x = f} h (also {x = g} {xs = fs} k hs)) =
    let ih : length (joined_by separator (g ∷ fs)) ≤ suc most * length (g ∷ fs) = joined_few separator most (also k hs) in
    omega (arith, length-append f (separator ∷ joined_by separator (g ∷ fs)))

missing_few : {A : Type 0} (write : A → List ℕ) (most : ℕ) (o : Option A) → 0 < most → IfThere (λ a. length (write a) ≤ most) o
    → length (written_or_missing write o) ≤ most
unfolding written_or_missing text
missing_few write most none h k = h
missing_few write most (some a) h k = k

line_length : (key : String) (value : List ℕ) → length (line key value) ≡ suc (length (key_of key) + length value)
unfolding line
line_length key value =
    omega (arith, length-append (key_of key ++ value) (line_feed ∷ []), length-append (key_of key) value)

-- ---- numbers

pub decimal_few : (n : ℕ) → InRange n → length (decimal n) ≤ 10
unfolding max_number
decimal_few n h = decimal_length 9 n (omega arith)

pub decimals_few : {ns : List ℕ} → Every InRange ns → length (decimals ns) ≤ 11 * length ns
unfolding decimals
decimals_few {ns} h = omega (arith, joined_few comma 10 (every_of_map decimal (every_map decimal_few h)), length-map ns decimal)

-- of alleles whose numbers have at most so many digits
genotype_few : (digits n : ℕ) (p : AllelePair) → ((a : ℕ) → a < n → length (decimal a) ≤ digits) → GenotypeBelow n p
    → length (written_genotype p) ≤ suc (2 * digits)
unfolding written_genotype joined_by
genotype_few digits n p few h =
    let low : length (decimal p.low) ≤ digits = few p.low (omega arith) in
    let high : length (decimal p.high) ≤ digits = few p.high (omega arith) in
    omega (arith, length-append (decimal p.low) (slash ∷ decimal p.high))

-- ---- a sample's data

-- so many numbers, or `.`
numbers_few : {count : ℕ} (o : Option (List ℕ)) → 0 < count → IfThere (Counted count) o
    → length (written_or_missing decimals o) ≤ 11 * count
numbers_few {count} o h k = missing_few decimals (11 * count) o (omega arith) (if_there o few k)
  where
    few : (ns : List ℕ) → Counted count ns → length (decimals ns) ≤ 11 * count
    few ns c = omega (arith, decimals_few c.in_range_lem, c.how_many)

-- by the number of alleles, and of the digits that their numbers have
data_few_by : (digits n : ℕ) (v : SampleData) → 0 < n → ((a : ℕ) → a < n → length (decimal a) ≤ digits) → SoundSampleData n v
    → length (printed_sample_data v) ≤ 58 + 2 * digits + 11 * n + 11 * genotype_count n
unfolding printed_sample_data key_of text
data_few_by digits n v h few s =
    let gt : length (written_or_missing written_genotype v.gt) ≤ suc (2 * digits) =
    missing_few written_genotype (suc (2 * digits)) v.gt (omega arith)
    (if_there v.gt (λ p. genotype_few digits n p few) s.gt) in
    let gq : length (written_or_missing decimal v.gq) ≤ 10 =
    missing_few decimal 10 v.gq (omega arith) (if_there v.gq decimal_few s.gq) in
    let dp : length (written_or_missing decimal v.dp) ≤ 10 =
    missing_few decimal 10 v.dp (omega arith) (if_there v.dp decimal_few s.dp) in
    let mindp : length (written_or_missing decimal v.mindp) ≤ 10 =
    missing_few decimal 10 v.mindp (omega arith) (if_there v.mindp decimal_few s.mindp) in
    let ad : length (written_or_missing decimals v.ad) ≤ 11 * n = numbers_few v.ad h s.ad in
    let pl : length (written_or_missing decimals v.pl) ≤ 11 * genotype_count n =
    numbers_few v.pl (genotype_count_some n h) s.pl in
    simp (length-append, line_length) (omega arith)

pub data_few : (n : ℕ) (v : SampleData) → 0 < n → n ≤ max_alleles → SoundSampleData n v → length (printed_sample_data v) ≤ most_data
unfolding max_number genotype_count
data_few n v h few s =
    let square : n * suc n ≤ 16 * 17 = mul-le-mul {n₂ = 16} {m₂ = 17} few (omega arith) in
    omega (arith, data_few_by 10 n v h (λ a l. decimal_few a (omega arith)) s)

-- its lines in a called record are not longer
pub values_shorter : (v : SampleData) → length (printed_values v) ≤ length (printed_sample_data v)
unfolding printed_sample_data printed_values
values_shorter v =
    two_more (line "gt" _) (line "gq" _) (line "dp" _) (line "mindp" _) (line "ad" _) (line "pl" _)
  where
    two_more : (a b c d e f : List ℕ) → length (b ++ c ++ e ++ f) ≤ length (a ++ b ++ c ++ d ++ e ++ f)
    two_more a b c d e f = simp length-append (omega arith)

-- a sample with no site
pub missing_data_length : length (printed_sample_data missing_data) ≡ 33
unfolding printed_sample_data missing_data written_or_missing line key_of text
missing_data_length = refl

-- all samples
pub all_data_few : (n : ℕ) {vs : List SampleData} → 0 < n → n ≤ max_alleles → Every (SoundSampleData n) vs
    → length (flat_map printed_sample_data vs) ≤ most_data * length vs
all_data_few n h few s = flat_map_few printed_sample_data most_data (every_map (λ v. data_few n v h few) s)

-- in a block: its alleles have numbers of one digit
pub block_data_few : (v : SampleData) → SoundSampleData 2 v → length (printed_sample_data v) ≤ most_block_data
unfolding genotype_count
block_data_few v s = omega (arith, data_few_by 1 2 v (omega arith) (λ a l. decimal_length 0 a (omega arith)) s)

pub all_block_data_few : {vs : List SampleData} → Every (SoundSampleData 2) vs
    → length (flat_map printed_sample_data vs) ≤ most_block_data * length vs
all_block_data_few s = flat_map_few printed_sample_data most_block_data (every_map block_data_few s)

-- ---- alleles

allele_few : (a : Allele) → SoundAllele max_letters a → length (spelled a) ≤ max_letters
unfolding spelled text
allele_few (letters s) h = h.not_too_long
allele_few span_del h = omega arith
allele_few non_ref h = omega arith

pub alleles_few : {as' : List Allele} → Every (SoundAllele max_letters) as' → length (written_alleles as') ≤ 256 * length as'
unfolding written_alleles
alleles_few {as'} h =
    omega (arith, joined_few comma max_letters (every_of_map spelled (every_map allele_few h)), length-map as' spelled)

-- ---- a record and the header

pub record_few : (samples : ℕ) (r : Record) → samples ≤ max_samples → SoundRecord samples r → length (printed_record r) ≤ most_record
unfolding printed_record key_of text
record_few samples r few s =
    let end : length (written_or_missing decimal r.end) ≤ 10 =
    missing_few decimal 10 r.end (omega arith) (if_there r.end decimal_few s.end_in_range) in
    let alts : length (written_alleles r.alleles.alts) ≤ 256 * length r.alleles.alts = alleles_few s.alleles.alts in
    let data' : length (flat_map printed_sample_data r.sample_data) ≤ most_data * length r.sample_data =
    all_data_few (suc (length r.alleles.alts)) (omega arith) s.alleles.at_most s.sample_data in
    simp (length-append, line_length)
    (omega (
      arith,
      s.contig.not_too_long,
      decimal_few r.pos s.in_range_lem,
      s.alleles.ref.not_too_long,
      s.alleles.at_most,
      s.sample_count,
    ))

pub header_few : {names : List (List ℕ)} (records : ℕ) → length names ≤ max_samples → Every Name names → records ≤ max_number
    → length (printed_header names records) ≤ most_header
unfolding printed_header key_of text max_number
header_few {names} records few h k =
    let each : length (flat_map (line "sample") names) ≤ 40 * length names = flat_map_few (line "sample") 40 (every_map name_few h) in
    simp (length-append, line_length)
    (omega (arith, decimal_few (length names) (omega arith), decimal_few records k))
  where
    name_few : (n : List ℕ) → Name n → length (line "sample" n) ≤ 40
    name_few n h = rw (line_length "sample" n) (omega (arith, h.not_too_long))
