-- A sound record without `<NON_REF>`: how long it is printed, and for a caller that has read the record, that it is the one in the
-- table (`called_is`) and that `put_called_record` may be called (`called_fits`).
-- Assumes nothing.
use Prim.Native.Nat.{◌*◌, ◌+◌, ◌-◌, ◌<◌, ◌^◌, ◌≤◌, suc, zero, ℕ}
use borrow.Author.Tests.{eq-eqb}
use lib.ListN.{get_or, length, length-append, length-map, take}
use mathlib.Core.Bool.{not, true}
use mathlib.Core.List.Memᴰ
use mathlib.Core.List.{List, [], ◌++◌, ◌∷◌, flat_map, map}
use mathlib.Core.Option
use mathlib.Core.Option.{Option, none, some}
use mathlib.Core.Path.{◌∙◌, ◌≡◌, ap, refl}
use native.Mathlib.Omega.{arith}
use Rattle.definitions.specs.Alleles.{alleles_of, genotype_count, non_ref, same_allele, written_alleles}
use Rattle.definitions.specs.Bytes.{comma, fields_of, line_feed, text}
use Rattle.definitions.specs.CalledGenotypes.{gq_from_pl, non_ref_pls, normalized_pl, pl_without_allele, pl_without_allele_at}
use Rattle.definitions.specs.CalledList.{called_data, called_record, non_ref_number, printed_called_record, without_index}
use Rattle.definitions.specs.Cohort.{pl_fits}
use Rattle.definitions.specs.Genotypes.{AllelePair, SampleData, genotype_index_any, genotype_pairs, least}
use Rattle.definitions.specs.Limits.{max_alleles, max_samples}
use Rattle.definitions.specs.Lines.{key_of, line}
use Rattle.definitions.specs.ListReader.{counts_fit}
use Rattle.definitions.specs.Lists.{all_of, filter_by, numbers_from}
use Rattle.definitions.specs.Numbers.{decimal, max_number}
use Rattle.definitions.specs.Printed.{printed_values}
use Rattle.definitions.specs.Records.{Record}
use Rattle.laws.proofs.Decimals.{InRange}
use Rattle.laws.proofs.Every.{Every, IfThere, also, every_all, every_append, every_drop, every_filter, every_map, every_of_map, every_or, flat_map_few, if_there, missing_or_lem, nothing, passes_every}
use Rattle.laws.proofs.Genotypes.{least_le}
use Rattle.laws.proofs.Members.{filter_few}
use Rattle.laws.proofs.SoundRecords.{SoundRecord, SoundSampleData}
use Rattle.laws.proofs.SoundValues.{Counted}
use Rattle.laws.proofs.Tests.{both}
use Rattle.record_laws.proofs.Lengths.{alleles_few, data_few, decimal_few, most_data, most_record, values_shorter}
use Rattle.laws.proofs.AllelesAsRead.{ref_alts_as_read}
use Rattle.called_lines.specs.Rows.{CalledRecordFits, RecordRows, row_data, row_record, without_gt}
use Rattle.called_genotypes.specs.Values.{folded_pl, retained_allele, retained_pl_at}
use Rattle.called_lines.proofs.Called.{alleles_count, non_ref_below}
use Rattle.called_genotypes.proofs.Folded.{folded_is, without_length}
use Rattle.called_lines.proofs.SampleValues.{without_index_length}

-- ---- the values of a sample

least_first : (x : ℕ) (l : List ℕ) → least (x ∷ l) ≤ x
least_first x l = least_le (x ∷ l) (Memᴰ.head refl)

-- PL without x is in range
at_range : (pl : List ℕ) (x : ℕ) (p : AllelePair) → Every InRange pl → InRange (retained_pl_at pl x p)
unfolding retained_pl_at pl_without_allele_at
at_range pl x p h =
    let own : ℕ = get_or pl (genotype_index_any (retained_allele x p.low) (retained_allele x p.high)) 0 in
    let in_range_lem : InRange own = every_or (genotype_index_any (retained_allele x p.low) (retained_allele x p.high)) 0 (omega arith) h in
    omega (arith, least_first own (non_ref_pls pl x (retained_allele x p.low) (retained_allele x p.high)))

normalized_range : (pl : List ℕ) → Every InRange pl → Every InRange (normalized_pl pl)
unfolding normalized_pl
normalized_range pl h = every_of_map (λ p. p - least pl) (every_map (λ p r. omega arith) h)

pl_range : (n x : ℕ) (pl : List ℕ) → x < n → Every InRange pl → Every InRange (pl_without_allele n x pl)
unfolding folded_pl
pl_range n x pl below h =
    rw (← folded_is n x below pl)
    (normalized_range (folded_pl (n - 1) x pl) (every_of_map (retained_pl_at pl x) (every_all (λ p. at_range pl x p h) (genotype_pairs (n - 1)))))

every_take : {P : ℕ → Type 0} (k : ℕ) {l : List ℕ} → Every P l → Every P (take k l)
every_take zero h = nothing
every_take (suc k) nothing = nothing
every_take (suc k) (also h hs) = also h (every_take k hs)

ad_range : (x : ℕ) (ad : List ℕ) → Every InRange ad → Every InRange (without_index x ad)
unfolding without_index
ad_range x ad h = every_append (every_take x h) (every_drop (suc x) h)

gq_range : (pl : List ℕ) → InRange (gq_from_pl pl)
unfolding gq_from_pl max_number
gq_range pl = omega arith

-- a fact of a value that is made of another
if_made : {A B : Type 0} {P : A → Type 0} (Q : B → Type 0) (f : A → B) (o : Option A) → ((a : A) → P a → Q (f a)) → IfThere P o
    → IfThere Q (Option.map f o)
if_made Q f none k h = tt
if_made Q f (some a) k h = k a h

-- what is said of a sample is sound
pub called_sound : (n x : ℕ) (v : SampleData) → x < n → SoundSampleData n v → SoundSampleData (n - 1) (called_data n x v)
unfolding called_data
called_sound n x v below s = record {
  gt = tt;
  gq = if_made InRange gq_from_pl (Option.map (pl_without_allele n x) v.pl) (λ pl h. gq_range pl) (if_made (λ pl. Unit {0}) (pl_without_allele n x) v.pl (λ pl h. tt) s.pl);
  dp = s.dp;
  mindp = tt;
  ad = if_made (Counted (n - 1)) (without_index x) v.ad entries s.ad;
  pl = if_made (Counted (genotype_count (n - 1))) (pl_without_allele n x) v.pl values s.pl;
}
  where
    entries : (ad : List ℕ) → Counted n ad → Counted (n - 1) (without_index x ad)
    entries ad c = record {
      how_many = omega (arith, c.how_many, without_index_length x ad (omega (arith, c.how_many)));
      in_range_lem = ad_range x ad c.in_range_lem;
    }

    values : (pl : List ℕ) → Counted (genotype_count n) pl → Counted (genotype_count (n - 1)) (pl_without_allele n x pl)
    values pl c = record { how_many = without_length n x pl below; in_range_lem = pl_range n x pl below c.in_range_lem }

-- ---- how long it is printed

values_few : (n : ℕ) (v : SampleData) → 0 < n → n ≤ max_alleles → SoundSampleData n v → length (printed_values v) ≤ most_data
values_few n v h few s = omega (arith, data_few n v h few s, values_shorter v)

all_values_few : (n x : ℕ) {vs : List SampleData} → 2 ≤ n → n ≤ max_alleles → x < n → Every (SoundSampleData n) vs
    → length (flat_map printed_values (map (called_data n x) vs)) ≤ most_data * length vs
all_values_few n x {vs} two few below s =
    let all = flat_map_few printed_values most_data {l = map (called_data n x) vs} (every_of_map (called_data n x)
    (every_map (λ v h. values_few (n - 1) (called_data n x v) (omega arith) (omega arith) (called_sound n x v below h)) s)) in
    omega (arith, length-map vs (called_data n x))

lines_few : (contig : List ℕ) (pos : ℕ) (ref alts rest : List ℕ)
    → length (line "contig" contig ++ line "pos" (decimal pos) ++ line "ref" ref ++ line "alt" alts ++ rest)
    ≡ 23 + length contig + length (decimal pos) + length ref + length alts + length rest
unfolding line key_of text line_feed
lines_few contig pos ref alts rest = simp length-append (omega arith)

-- a called record is not longer than a combined one may be
pub called_few : (samples : ℕ) (r : Record) → samples ≤ max_samples → SoundRecord samples r
    → length (printed_called_record (called_record r)) ≤ most_record
unfolding printed_called_record called_record alleles_of
called_few samples r few s =
    let shown = filter_by (λ a. not (same_allele non_ref a)) r.alleles.alts in
    let n = length (alleles_of r.alleles) in
    let x = non_ref_number r.alleles in
    let alts : length (written_alleles shown) ≤ 256 * length shown = alleles_few (every_filter _ r.alleles.alts s.alleles.alts) in
    let data' : length (flat_map printed_values (map (called_data n x) r.sample_data)) ≤ most_data * length r.sample_data =
    all_values_few n x (omega (arith, s.alleles.at_least_two)) s.alleles.at_most (non_ref_below r.alleles) s.sample_data in
    omega (
      arith,
      lines_few r.contig r.pos r.alleles.ref (written_alleles shown) (flat_map printed_values (map (called_data n x) r.sample_data)),
      s.contig.not_too_long,
      decimal_few r.pos s.in_range_lem,
      s.alleles.ref.not_too_long,
      s.alleles.at_most,
      filter_few (λ a. not (same_allele non_ref a)) r.alleles.alts,
      s.sample_count,
    )

-- ---- a record that was read

-- nothing depends on GT
without_gt_lem : (n x : ℕ) (vs : List SampleData) → map (called_data n x) vs ≡ map (called_data n x) (map without_gt vs)
unfolding called_data without_gt
without_gt_lem n x [] = refl
without_gt_lem n x (v ∷ vs) = ap (λ (l : List SampleData). called_data n x v ∷ l) (without_gt_lem n x vs)

module _ {s contig : List ℕ} {pos : ℕ} {ref alts rows : List ℕ} {samples : ℕ} {r : Record} (same : RecordRows s contig pos ref alts rows samples r) where
  pub called_is : called_record r ≡ called_record (row_record s contig pos ref alts rows samples)
  unfolding called_record row_record
  called_is =
      let contigs = same.same_contig in
      let positions = same.same_pos in
      let alleles = same.same_alleles in
      let said : map (called_data (length (alleles_of r.alleles)) (non_ref_number r.alleles)) r.sample_data
      ≡ map (called_data (length (alleles_of (ref_alts_as_read ref (fields_of comma alts)))) (non_ref_number (ref_alts_as_read ref (fields_of comma alts)))) (map (row_data s rows) (numbers_from 0 samples)) =
      without_gt_lem (length (alleles_of r.alleles)) (non_ref_number r.alleles) r.sample_data
      ∙ rw (same.same_data, alleles) in
      λ j. record {
        contig = contigs j;
        pos = positions j;
        end = none;
        alleles = record { ref = (alleles j).ref; alts = filter_by (λ a. not (same_allele non_ref a)) (alleles j).alts };
        sample_data = said j;
      }

  -- PL and AD are as many as row 8 asks
  counts : SoundRecord samples r → all_of (counts_fit (ref_alts_as_read ref (fields_of comma alts))) (map (row_data s rows) (numbers_from 0 samples)) ≡ true
  counts sound =
      rw (← same.same_data, ← same.same_alleles)
      (passes_every (counts_fit r.alleles) (every_of_map without_gt (every_map fit sound.sample_data)))
    where
      fit : (v : SampleData) → SoundSampleData (suc (length r.alleles.alts)) v → counts_fit r.alleles (without_gt v) ≡ true
      fit v h = unfold counts_fit pl_fits without_gt in both
          (missing_or_lem (pl_fits r.alleles) v.pl (if_there v.pl (λ l c. eq-eqb _ _ c.how_many) h.pl))
          (missing_or_lem _ v.ad (if_there v.ad (λ l c. eq-eqb _ _ c.how_many) h.ad))

  -- what `put_called_record` asks of such a record
  pub called_fits : {alleles at : ℕ} → SoundRecord samples r → samples ≤ max_samples → alleles ≡ length (alleles_of r.alleles)
      → at + most_record < 2 ^ 64 → CalledRecordFits s contig pos ref alts alleles rows samples at
  unfolding alleles_of
  called_fits sound few count room =
      let n = rw (same.same_alleles, alleles_count ref alts) at count in
      record {
        position = rw (← same.same_pos) sound.in_range_lem;
        count = n;
        few = omega (arith, count, sound.alleles.at_most);
        counts = counts sound;
        fits = rw (← called_is) (omega (arith, called_few samples r few sound));
      }
