-- A called record in a table: its lines, and what the calls that lay them ask.
-- Assumes nothing.
use Prim.Native.Nat.{◌+◌, ◌-◌, ◌<◌, ◌^◌, ◌≤◌, suc, ℕ}
use borrow.Author.Tests.{eqb-true}
use lib.ListN.{length, length-append, length-map, take}
use lib.Seq.{take_all}
use mathlib.Core.Bool.{true}
use mathlib.Core.List.{List, [], ◌++◌, ◌∷◌, flat_map, map}
use mathlib.Core.Option.{Option, get_or, none, some}
use mathlib.Core.Path.{◌∙◌, ◌≡◌, ap, refl}
use native.Mathlib.Omega.{arith}
use Rattle.definitions.specs.Alleles.{RefAlts, alleles_of, capital, genotype_count, non_ref, same_allele}
use Rattle.definitions.specs.Bytes.{comma, fields_of, text}
use Rattle.definitions.specs.CalledList.{called_data, called_record, non_ref_number, printed_called_record}
use Rattle.definitions.specs.Cohort.{pl_fits}
use Rattle.definitions.specs.Genotypes.{SampleData}
use Rattle.definitions.specs.Lines.{key_of, line}
use Rattle.definitions.specs.ListReader.{counts_fit}
use Rattle.definitions.specs.Lists.{index_where, missing_or, numbers_from}
use Rattle.definitions.specs.Printed.{printed_values}
use Rattle.genotype_values.proofs.Mapped.{count_is, product_bound}
use Rattle.kv_write.proofs.Laying.{fits_first, fits_rest, laid_append}
use Rattle.kv_write.specs.Laid.{Laid}
use Rattle.laws.proofs.Every.{IfThere, every_map, every_of_map_back, every_passed, if_there, index_below, missing_or_back}
use Rattle.laws.proofs.Fields.{fields_cons}
use Rattle.laws.proofs.Tests.{both_of}
use Rattle.record_lines.proofs.Head.{contig_line, pos_line}
use Rattle.laws.proofs.AllelesAsRead.{allele_as_read, ref_alts_as_read}
use Rattle.called_lines.specs.Rows.{CalledHeadFits, CalledRecordFits, Entries, SamplesPrintable, alt_line, called_head, called_sample, called_samples, row_data, row_record}

-- ---- the lines before the samples'

lengths : (a b c d : List ℕ) → length (a ++ b ++ c ++ d) ≡ length a + length b + length c + length d
lengths a b c d = simp length-append

module _ (contig : List ℕ) (pos : ℕ) (ref alts : List ℕ) where
  head_lines : called_head contig pos ref alts ≡ contig_line contig ++ pos_line pos ++ line "ref" (map capital ref) ++ alt_line alts
  unfolding called_head line key_of text
  head_lines = refl

  pub head_length : length (called_head contig pos ref alts)
      ≡ length (contig_line contig) + length (pos_line pos) + length (line "ref" (map capital ref)) + length (alt_line alts)
  head_length = ap length head_lines ∙ lengths (contig_line contig) (pos_line pos) (line "ref" (map capital ref)) (alt_line alts)

  pub head_laid : {d d1 d2 d3 d4 : List ℕ} {at at1 at2 at3 at4 : ℕ} → Laid d at (contig_line contig) d1 at1
      → Laid d1 at1 (pos_line pos) d2 at2 → Laid d2 at2 (line "ref" (map capital ref)) d3 at3 → Laid d3 at3 (alt_line alts) d4 at4
      → Laid d at (called_head contig pos ref alts) d4 at4
  head_laid l1 l2 l3 l4 = rw head_lines (laid_append (laid_append (laid_append l1 l2) l3) l4)

-- ---- the alleles

-- `<NON_REF>` is one of them; REF is where there is none
pub non_ref_below : (a : RefAlts) → non_ref_number a < length (alleles_of a)
unfolding non_ref_number alleles_of
non_ref_below a = go (index_where (same_allele non_ref) (alleles_of a)) (index_below (same_allele non_ref) (alleles_of a))
  where
    go : (o : Option ℕ) → IfThere (λ i. i < length (alleles_of a)) o → get_or o 0 < length (alleles_of a)
    go none h = omega arith
    go (some k) h = h

module _ (ref alts : List ℕ) where
  pub alleles_count : length (alleles_of (ref_alts_as_read ref (fields_of comma alts))) ≡ suc (length (fields_of comma alts))
  unfolding alleles_of ref_alts_as_read
  alleles_count = ap suc (length-map (fields_of comma alts) allele_as_read)

  pub at_least_two : 2 ≤ suc (length (fields_of comma alts))
  at_least_two = let (f, fs, e) = fields_cons comma alts in omega (arith, ap length e)

  -- the answer of `non_ref_number`
  pub non_ref_is : {x : ℕ} → suc (length (fields_of comma alts)) ≤ 16
      → x ≡ get_or (index_where (same_allele non_ref) (take 256 (alleles_of (ref_alts_as_read ref (fields_of comma alts))))) 0
      → x ≡ non_ref_number (ref_alts_as_read ref (fields_of comma alts))
  unfolding non_ref_number
  non_ref_is few e =
      e ∙ rw (take_all 256 (alleles_of (ref_alts_as_read ref (fields_of comma alts))) (omega (arith, alleles_count)))

-- ---- the record

flat_map_map : {A B C : Type 0} (f : A → B) (g : B → List C) (l : List A) → flat_map g (map f l) ≡ flat_map (λ a. g (f a)) l
unfolding flat_map
flat_map_map f g [] = refl
flat_map_map f g (a ∷ l) = rw (flat_map_map f g l)

module _ (s contig : List ℕ) (pos : ℕ) (ref alts rows : List ℕ) (samples : ℕ) where
  -- its lines
  pub called_printed : {n x : ℕ} → n ≡ suc (length (fields_of comma alts)) → x ≡ non_ref_number (ref_alts_as_read ref (fields_of comma alts))
      → printed_called_record (called_record (row_record s contig pos ref alts rows samples))
      ≡ called_head contig pos ref alts ++ called_samples s n x rows samples
  called_printed {n} {x} count number =
      by_parts
      ∙ ap (λ (t : List ℕ). called_head contig pos ref alts ++ t) (flat (rows_said (numbers_from 0 samples)))
    where
      by_parts : printed_called_record (called_record (row_record s contig pos ref alts rows samples))
          ≡ called_head contig pos ref alts
          ++ flat_map printed_values (map (called_data (length (alleles_of (ref_alts_as_read ref (fields_of comma alts)))) (non_ref_number (ref_alts_as_read ref (fields_of comma alts)))) (map (row_data s rows) (numbers_from 0 samples)))
      by_parts = unfold printed_called_record called_record row_record called_head ref_alts_as_read in refl

      rows_said : (l : List ℕ) → flat_map printed_values (map (called_data n x) (map (row_data s rows) l)) ≡ flat_map (called_sample s n x rows) l
      rows_said l =
          flat_map_map (called_data n x) printed_values (map (row_data s rows) l)
          ∙ flat_map_map (row_data s rows) (λ v. printed_values (called_data n x v)) l

      flat : flat_map printed_values (map (called_data n x) (map (row_data s rows) (numbers_from 0 samples))) ≡ flat_map (called_sample s n x rows) (numbers_from 0 samples)
          → flat_map printed_values (map (called_data (length (alleles_of (ref_alts_as_read ref (fields_of comma alts)))) (non_ref_number (ref_alts_as_read ref (fields_of comma alts)))) (map (row_data s rows) (numbers_from 0 samples)))
          ≡ called_samples s n x rows samples
      flat e = rw (alleles_count ref alts, ← count, ← number) (unfold called_samples in e)

  -- ---- what the call for the samples asks

  alts_count : length (ref_alts_as_read ref (fields_of comma alts)).alts ≡ length (fields_of comma alts)
  unfolding ref_alts_as_read
  alts_count = length-map (fields_of comma alts) allele_as_read

  few_entries : {n : ℕ} → n ≡ suc (length (fields_of comma alts)) → n ≤ 16 → (v : SampleData) → counts_fit (ref_alts_as_read ref (fields_of comma alts)) v ≡ true
      → Entries n v
  unfolding counts_fit pl_fits
  few_entries {n} count few v e =
      let (p, a) = both_of (missing_or (pl_fits (ref_alts_as_read ref (fields_of comma alts))) v.pl) _ e in
      let k : suc (length (ref_alts_as_read ref (fields_of comma alts)).alts) ≡ n = omega (arith, alts_count) in
      record {
        ad = if_there v.ad (λ l t. eqb-true _ _ t ∙ k) (missing_or_back _ v.ad a);
        pl = if_there v.pl (λ l t. few_pl l (eqb-true _ _ t ∙ ap genotype_count k)) (missing_or_back _ v.pl p);
      }
    where
      few_pl : (l : List ℕ) → length l ≡ genotype_count n → length l ≤ 136
      few_pl l q = omega (arith, count_is n, product_bound n few)

  module _ {alleles at : ℕ} (pre : CalledRecordFits s contig pos ref alts alleles rows samples at) where
    pub called_number : {x : ℕ} → x ≡ get_or (index_where (same_allele non_ref) (take 256 (alleles_of (ref_alts_as_read ref (fields_of comma alts))))) 0
        → x ≡ non_ref_number (ref_alts_as_read ref (fields_of comma alts))
    called_number = non_ref_is ref alts (omega (arith, pre.count, pre.few))

    module _ {x : ℕ} (number : x ≡ non_ref_number (ref_alts_as_read ref (fields_of comma alts))) where
      fits_both : at + length (called_head contig pos ref alts ++ called_samples s alleles x rows samples) < 2 ^ 64
      fits_both = rw (called_printed pre.count number) at pre.fits

      pub head_fits : CalledHeadFits contig pos ref alts at
      head_fits = record {
        position = pre.position;
        fits = fits_first at (called_head contig pos ref alts) (called_samples s alleles x rows samples) fits_both;
      }

      pub samples_printable : {d d' : List ℕ} {at' : ℕ} → Laid d at (called_head contig pos ref alts) d' at'
          → SamplesPrintable s alleles x rows samples at'
      samples_printable l = record {
        at_least = omega (arith, pre.count, at_least_two ref alts);
        at_most = pre.few;
        dropped = omega (arith, pre.count, alleles_count ref alts, non_ref_below (ref_alts_as_read ref (fields_of comma alts)));
        entries = every_map (λ sample. few_entries pre.count pre.few (row_data s rows sample)) (every_of_map_back (row_data s rows) (numbers_from 0 samples) (every_passed (counts_fit (ref_alts_as_read ref (fields_of comma alts))) _ pre.counts));
        fits = fits_rest (called_samples s alleles x rows samples) l fits_both;
      }

      pub record_laid : {d d1 d2 : List ℕ} {at1 at2 : ℕ} → Laid d at (called_head contig pos ref alts) d1 at1
          → Laid d1 at1 (called_samples s alleles x rows samples) d2 at2
          → Laid d at (printed_called_record (called_record (row_record s contig pos ref alts rows samples))) d2 at2
      record_laid p q = rw (called_printed pre.count number) (laid_append p q)
