-- The selection sheet: for each sample of a called list, the summed weights of the markers that it meets. Rows 19, 20 and 14.
use Rattle.std.specs.Prelude.{◌*◌, ◌+◌, suc, ℕ, eqb, leb, ltb, drop, get_or, length, Bool, ◌&&◌, ◌||◌, cond, false, not}
use mathlib.Core.List.{List, [], ◌++◌, ◌∷◌, flat_map, map}
use Rattle.std.proofs.Math.Option.{Option, bind, none, some}
use Rattle.definitions.specs.Alleles.{Allele, allele_of, alleles_of, non_ref, ref_alts_of, same_allele}
use Rattle.definitions.specs.Bytes.{comma, fields_of, same_bytes, text}
use Rattle.definitions.specs.Checked.{Checked, ◌>>=◌, ◌>>◌, accepted, in_order, or_refuse, read_each, refused_as, require, within}
use Rattle.definitions.specs.Cohort.{samples_of}
use Rattle.definitions.specs.CombinedList.{fits}
use Rattle.definitions.specs.Genotypes.{AllelePair, SampleData, genotype_pairs, least, missing_data}
use Rattle.definitions.specs.Limits.{max_alleles, max_letters}
use Rattle.definitions.specs.Lines.{Line, line, line_at, lines_of}
use Rattle.definitions.specs.ListReader.{WrittenList, comes_after, counts_fit, with_missing}
use Rattle.definitions.specs.Lists.{all_of, all_some, any_of, groups_of, numbers_from, only_if}
use Rattle.definitions.specs.Numbers.{decimal, max_number, name, number, number_list, or_missing}
use Rattle.definitions.specs.Records.{Record}

-- ---- markers

pub record Marker : Type 0 where
  pub marker : List ℕ
  pub contig : List ℕ
  pub pos : ℕ
  pub allele : Allele
  pub weight : ℕ
  pub after : List (List ℕ)

abbrev pub max_markers : ℕ
max_markers = 500

unfoldable pub marker_lines : ℕ
marker_lines = 6

-- a number from low to high
unfoldable pub number_in : ℕ → ℕ → List ℕ → Option ℕ
number_in low high s = bind (number s) (λ n. only_if (leb low n && leb n high) n)

-- the wanted allele: letters or `*`
unfoldable pub wanted_allele : List ℕ → Option Allele
wanted_allele s = bind (allele_of max_letters s) (λ a. only_if (not (same_allele non_ref a)) a)

-- `.` for none, or up to four names
unfoldable pub names_after : List ℕ → Option (List (List ℕ))
names_after s =
    let several = bind (all_some (map name (fields_of comma s))) (λ names. only_if (leb (length names) 4) names) in
    cond (same_bytes s (text ".")) (some []) several

unfoldable pub is_named : List Marker → List ℕ → Bool
is_named before n = any_of (λ (m : Marker). same_bytes n m.marker) before

-- A marker group, after those before it. Row 19: a line out of form or range, a name repeated, the 501st; row 20: a name in `after`
-- that is not listed before.
unfoldable pub marker_of : List Marker → List Line → Checked Marker
marker_of before group = do
  m ← refused_as 19 (do
    marker ← line_at group 0 "marker" name
    contig ← line_at group 1 "contig" name
    pos ← line_at group 2 "pos" (number_in 1 max_number)
    allele ← line_at group 3 "allele" wanted_allele
    weight ← line_at group 4 "weight" (number_in 1 100)
    after ← line_at group 5 "after" names_after
    require 19 (ltb (length before) max_markers && not (is_named before marker))
    accepted (record { marker = marker; contig = contig; pos = pos; allele = allele; weight = weight; after = after }))
  require 20 (all_of (is_named before) m.after)
  accepted m

unfoldable pub markers_of : List ℕ → Checked (List Marker)
markers_of s = read_each marker_of [] (groups_of marker_lines (lines_of s))

-- ---- a called list read back

-- the lines of a called record group before its samples', and those of each sample
unfoldable pub called_lines : ℕ
called_lines = 4

-- the lines of a sample, by its number; it has no GT and no MIN_DP
unfoldable pub called_data_read : List Line → ℕ → Checked SampleData
called_data_read group sample =
    let first = called_lines + called_lines * sample in do
      gq ← line_at group first "gq" (or_missing number)
      dp ← line_at group (first + 1) "dp" (or_missing number)
      ad ← line_at group (first + 2) "ad" (or_missing number_list)
      pl ← line_at group (first + 3) "pl" (or_missing number_list)
      accepted (record { gt = none; gq = gq; dp = dp; mindp = none; ad = ad; pl = pl })

-- A called record group, as `record_read` reads a combined one: rows 1, 4, 5 and 8. No `<NON_REF>` is needed, and there is no END.
unfoldable pub called_record_read : ℕ → ℕ → List Record → List Line → Checked Record
called_record_read samples records before group = do
  require 1 (ltb (length before) records)
  contig ← line_at group 0 "contig" name
  pos ← line_at group 1 "pos" number
  ref ← line_at group 2 "ref" some
  alt ← line_at group 3 "alt" some
  sample_data ← in_order (map (called_data_read group) (numbers_from 0 samples))
  require 4 (leb 1 pos && comes_after before contig pos)
  alleles ← or_refuse 5 (ref_alts_of max_letters max_alleles ref alt)
  require 8 (all_of (counts_fit alleles) sample_data)
  accepted (record { contig = contig; pos = pos; end = none; alleles = alleles; sample_data = sample_data })

-- what the bytes of a called list say: rows 1 to 5 and 8
unfoldable pub called_read : List ℕ → Checked WrittenList
called_read s =
    let ls = lines_of s in do
      names ← samples_of ls
      count ← line_at ls (suc (length names)) "records" number
      records ← read_each (called_record_read (length names) count) []
          (with_missing count (groups_of (called_lines + called_lines * length names) (drop (2 + length names) ls)))
      accepted (record { names = names; records = records })

-- ---- the sheet

unfoldable pub pair_has : ℕ → AllelePair → Bool
pair_has a p = eqb a p.low || eqb a p.high

-- some genotype of least PL, of n alleles, has the allele with this number; a missing PL has none
unfoldable pub in_least_pair : ℕ → ℕ → Option (List ℕ) → Bool
in_least_pair n a none = false
in_least_pair n a (some pl) =
    any_of (λ i. eqb (get_or pl i 0) (least pl) && pair_has a (get_or (genotype_pairs n) i (record { low = 0; high = 0 })))
    (numbers_from 0 (length pl))

-- the record is at the marker's position, and the sample has the wanted allele in a genotype of its least PL
unfoldable pub shows : ℕ → Marker → Record → Bool
shows sample m r =
    same_bytes m.contig r.contig && eqb m.pos r.pos
    && any_of
    (λ a. same_allele m.allele (get_or (alleles_of r.alleles) a non_ref)
    && in_least_pair (length (alleles_of r.alleles)) a (get_or r.sample_data sample missing_data).pl)
    (numbers_from 0 (length (alleles_of r.alleles)))

-- the summed weights of the markers that a sample meets, given the names of those met before
unfoldable pub met_weights : List Record → ℕ → List (List ℕ) → List Marker → ℕ
met_weights records sample met [] = 0
met_weights records sample met (m ∷ ms) =
    let with' = m.weight + met_weights records sample (m.marker ∷ met) ms in
    let without = met_weights records sample met ms in
    cond (all_of (λ n. any_of (same_bytes n) met) m.after && any_of (shows sample m) records) with' without

-- a `sample` line and a `sum` line for each sample
unfoldable pub printed_sheet : List Marker → WrittenList → List ℕ
printed_sheet markers list =
    flat_map
    (λ k. line "sample" (get_or list.names k []) ++ line "sum" (decimal (met_weights list.records k [] markers)))
    (numbers_from 0 (length list.names))

-- The sheet of a call with this much output: text lengths (2), markers (19 and 20), the called list (1 to 5 and 8), last 14.
unfoldable pub selection_sheet : List ℕ → List ℕ → ℕ → Checked (List ℕ)
selection_sheet markers called out_length = do
  require 2 (fits markers && fits called)
  ms ← markers_of markers
  list ← called_read called
  within out_length (printed_sheet ms list)
