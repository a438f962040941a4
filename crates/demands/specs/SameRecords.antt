-- What two lists say alike, but for the order of ALTs and a GT among equal PLs.
use Rattle.std.specs.Prelude.{ℕ, Bool, List, [], ◌∷◌, ◌≡◌}
use Rattle.std.proofs.Math.ListN.{get_elem?}
use Rattle.std.proofs.Math.Option.{Option, none, some}
use Rattle.definitions.specs.Alleles.{Allele, same_allele}
use Rattle.definitions.specs.Bytes.{same_bytes}
use Rattle.definitions.specs.Checked.{accepted}
use Rattle.definitions.specs.Cohort.{Cohort}
use Rattle.definitions.specs.Genotypes.{AllelePair, SampleData, genotype_index}
use Rattle.definitions.specs.ListReader.{list_read}
use Rattle.definitions.specs.Lists.{any_of, index_where}
use Rattle.definitions.specs.Records.{Record}
use Rattle.demands.specs.Preserved.{SameCalls}

-- the PL at a pair of alleles
unfoldable pub pl_at : Option (List ℕ) → AllelePair → Option ℕ
pl_at none g = none
pl_at (some ps) g = get_elem? ps (genotype_index g.low g.high)

-- GT is missing in both, or the PL at the one is the PL at the other
unfoldable pub SameGt : Option AllelePair → Option (List ℕ) → Option AllelePair → Option (List ℕ) → Type 0
SameGt none ps none qs = Unit {0}
SameGt none ps (some h) qs = ⊥
SameGt (some g) ps none qs = ⊥
SameGt (some g) ps (some h) qs = (n : ℕ) × (pl_at ps g ≡ some n) × (pl_at qs h ≡ some n)

-- so for every sample, found by name
unfoldable pub SameGts : List (List ℕ) → Record → List (List ℕ) → Record → Type 0
SameGts names1 r1 names2 r2 =
    (name : List ℕ) (i j : ℕ) → index_where (same_bytes name) names1 ≡ some i → index_where (same_bytes name) names2 ≡ some j
    → (v w : SampleData) → get_elem? r1.sample_data i ≡ some v → get_elem? r2.sample_data j ≡ some w
    → SameGt v.gt v.pl w.gt w.pl

-- the allele is one of the record's ALTs
unfoldable pub is_alt : Record → Allele → Bool
is_alt r a = any_of (same_allele a) r.alleles.alts

-- Two records with the same contig, POS and END (so the same stretch), the same REF and the same ALTs in any order. Every sample,
-- found by name, has the same PL at each pair of alleles, AD at each allele, GQ, DP and MIN_DP, missing in both or in neither
-- (`SameCalls` both ways: REF being the same, an allele is followed to itself), and a GT of the same PL.
pub record SameRecord (names1 names2 : List (List ℕ)) (r1 r2 : Record) : Type 0 where
  pub contig : r1.contig ≡ r2.contig
  pub pos : r1.pos ≡ r2.pos
  pub end : r1.end ≡ r2.end
  pub ref : r1.alleles.ref ≡ r2.alleles.ref
  pub alts : (a : Allele) → is_alt r1 a ≡ is_alt r2 a
  pub forth : SameCalls names1 r1 names2 r2
  pub back : SameCalls names2 r2 names1 r1
  pub gts : SameGts names1 r1 names2 r2

-- as many records, each with its counterpart
unfoldable pub SameRecords : List (List ℕ) → List (List ℕ) → List Record → List Record → Type 0
SameRecords names1 names2 [] [] = Unit {0}
SameRecords names1 names2 [] (s ∷ ss) = ⊥
SameRecords names1 names2 (r ∷ rs) [] = ⊥
SameRecords names1 names2 (r ∷ rs) (s ∷ ss) = SameRecord names1 names2 r s × SameRecords names1 names2 rs ss

-- The bytes of two lists read back with the names of these cohorts, and record by record they say the same.
abbrev pub ListsAgree : Cohort → List ℕ → Cohort → List ℕ → Type 0
ListsAgree c1 list1 c2 list2 =
    (records1 records2 : List Record)
    × (list_read list1 ≡ accepted (record { names = c1.names; records = records1 }))
    × (list_read list2 ≡ accepted (record { names = c2.names; records = records2 }))
    × SameRecords c1.names c2.names records1 records2
