-- What a record says of a sample, by the sample's own values and its map: for each allele of the record, the number of the sample's allele.
use Rattle.std.specs.Prelude.{◌+◌, ◌<◌, ◌^◌, ◌≤◌, ℕ, eqb, ltb, get_or, length, List}
use Rattle.std.proofs.Math.ListN.{get_elem?}
use Rattle.std.proofs.Math.Option
use Rattle.std.proofs.Math.Option.{Option, map, bind}
use Rattle.definitions.specs.Genotypes.{AllelePair, SampleData, best_genotype, genotype_index_any, genotype_pairs, least, remapped_ad, remapped_pl}
use Rattle.definitions.specs.Lines.{line}
use Rattle.definitions.specs.Lists.{index_where, only_if}
use Rattle.definitions.specs.Printed.{printed_sample_data, written_genotype}

-- values in a slice: an empty one stands for a missing value
abbrev pub present : List ℕ → Option (List ℕ)
present xs = only_if (ltb 0 (length xs)) xs

-- the place in the sample's PL of a pair of the record's alleles
unfoldable pub mapped_place : List ℕ → AllelePair → ℕ
mapped_place allele_map p = genotype_index_any (get_or allele_map p.low 0) (get_or allele_map p.high 0)

-- the first place of the least PL
unfoldable pub least_place : List ℕ → ℕ
least_place pl = Option.get_or (index_where (eqb (least pl)) pl) 0

-- the pair at that place, if PL is there; that it is `best_genotype` of at most 16 alleles is `best_is` of proofs/Best.antt
unfoldable pub least_pair : List ℕ → Option AllelePair
least_pair pl = bind (present pl) λ there. get_elem? (genotype_pairs 16) (least_place there)

-- what is said of a sample with this map and these values: `site_data` of a site is that (`site_values` of proofs/Said.antt)
unfoldable pub values_of : List ℕ → Option ℕ → Option ℕ → Option ℕ → Option (List ℕ) → Option (List ℕ) → SampleData
values_of allele_map gq dp mindp ad pl =
    let record_pl = map (remapped_pl allele_map) pl in
    record {
      gt = map (best_genotype (length allele_map)) record_pl;
      gq = gq;
      dp = dp;
      mindp = mindp;
      ad = map (remapped_ad allele_map) ad;
      pl = record_pl;
    }

-- what is said of a sample whose values are over the record's alleles already
unfoldable pub said_of : Option ℕ → Option ℕ → Option ℕ → List ℕ → List ℕ → SampleData
said_of gq dp mindp ad pl = record { gt = least_pair pl; gq = gq; dp = dp; mindp = mindp; ad = present ad; pl = present pl }

-- the GT line of the genotype of two alleles
abbrev pub genotype_line : ℕ → ℕ → List ℕ
genotype_line low high = line "gt" (written_genotype (record { low = low; high = high }))

-- what `put_sample_data` asks: the record has 1 to 16 alleles, and the offset behind the lines fits a usize
pub record Printable (allele_map : List ℕ) (gq dp mindp : Option ℕ) (ad pl : List ℕ) (at : ℕ) : Type 0 where
  pub alleles : 0 < length allele_map
  pub at_most : length allele_map ≤ 16
  pub fits : at + length (printed_sample_data (values_of allele_map gq dp mindp (present ad) (present pl))) < 2 ^ 64
