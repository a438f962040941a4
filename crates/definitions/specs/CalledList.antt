-- The called list: the records of a combined list that call a variant, without `<NON_REF>`.
use Rattle.std.specs.Prelude.{suc, ℕ, drop, length, take, Bool, ◌&&◌, not}
use mathlib.Core.List.{List, ◌++◌, flat_map, map}
use Rattle.std.proofs.Math.Option
use Rattle.std.proofs.Math.Option.{get_or, none}
use Rattle.definitions.specs.Alleles.{RefAlts, alleles_of, non_ref, only_non_ref, same_allele, written_alleles}
use Rattle.definitions.specs.CalledGenotypes.{gq_from_pl, pl_without_allele}
use Rattle.definitions.specs.Checked.{Checked, ◌>>=◌, within}
use Rattle.definitions.specs.Genotypes.{SampleData}
use Rattle.definitions.specs.Lines.{line}
use Rattle.definitions.specs.ListReader.{written_list}
use Rattle.definitions.specs.Lists.{any_of, filter_by, index_where, is_there}
use Rattle.definitions.specs.Numbers.{decimal}
use Rattle.definitions.specs.Printed.{printed_header, printed_values}
use Rattle.definitions.specs.Records.{Record}

-- A record is called unless no ALT but `<NON_REF>` is there or no sample has PL (document 01: it is dropped).
unfoldable pub is_called : Record → Bool
is_called r = not (only_non_ref r.alleles) && any_of (λ (v : SampleData). is_there v.pl) r.sample_data

-- the number of `<NON_REF>`, which a combined record has
unfoldable pub non_ref_number : RefAlts → ℕ
non_ref_number r = get_or (index_where (same_allele non_ref) (alleles_of r)) 0

-- the list without the element at an index
unfoldable pub without_index : {A : Type 0} → ℕ → List A → List A
without_index i xs = take i xs ++ drop (suc i) xs

-- what is said of a sample of n alleles without x, `<NON_REF>`: PL and then GQ from it, AD without its entry, DP as it was, no GT
-- and no MIN_DP
unfoldable pub called_data : ℕ → ℕ → SampleData → SampleData
called_data n x v =
    let pl = Option.map (pl_without_allele n x) v.pl in
    record { gt = none; gq = Option.map gq_from_pl pl; dp = v.dp; mindp = none; ad = Option.map (without_index x) v.ad; pl = pl }

-- the record without `<NON_REF>`
unfoldable pub called_record : Record → Record
called_record r =
    let x = non_ref_number r.alleles in
    record {
      contig = r.contig;
      pos = r.pos;
      end = none;
      alleles = record { ref = r.alleles.ref; alts = filter_by (λ a. not (same_allele non_ref a)) r.alleles.alts };
      sample_data = map (called_data (length (alleles_of r.alleles)) x) r.sample_data;
    }

-- the records of the called list, in order
unfoldable pub called_records : List Record → List Record
called_records records = map called_record (filter_by is_called records)

-- the lines of a called record: those of a combined one without `end`, `gt` and `mindp`
unfoldable pub printed_called_record : Record → List ℕ
printed_called_record r =
    line "contig" r.contig
    ++ line "pos" (decimal r.pos)
    ++ line "ref" r.alleles.ref
    ++ line "alt" (written_alleles r.alleles.alts)
    ++ flat_map printed_values r.sample_data

-- the called list as bytes: a header as the combined list has it, then the records
unfoldable pub printed_called_list : List (List ℕ) → List Record → List ℕ
printed_called_list names records = printed_header names (length records) ++ flat_map printed_called_record records

-- The called list of a call with this much output, or the row that refuses it: rows 1 to 8 as the list is read back, then 14.
unfoldable pub called_list : List ℕ → ℕ → Checked (List ℕ)
called_list s out_length = do
  combined ← written_list s
  within out_length (printed_called_list combined.names (called_records combined.records))
