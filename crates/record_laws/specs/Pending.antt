-- A block record that is held back while the next ones may coalesce with it.
use Rattle.std.specs.Prelude.{ℕ, ltb, List, [], ◌++◌, ◌∷◌, map}
use Rattle.std.proofs.Math.Option.{Option, none, some}
use Rattle.definitions.specs.Alleles.{non_ref}
use Rattle.definitions.specs.Checked.{Checked, ◌>>=◌, accepted, in_order}
use Rattle.definitions.specs.CombinedList.{Input, interval_record, record_intervals}
use Rattle.definitions.specs.Genotypes.{SampleData}
use Rattle.definitions.specs.Lists.{only_if}
use Rattle.definitions.specs.Records.{Record, coalesce_blocks, coalesce_from}

-- what a pending record, if there is one, and those to come give
unfoldable pub coalesce_pending : Option Record → List Record → List Record
coalesce_pending none rs = coalesce_blocks rs
coalesce_pending (some p) rs = coalesce_from p rs

-- the records of a contig: those done, then a pending one, if there is one, coalesced with those to come
unfoldable pub finish : List Record → Option Record → Checked (List Record) → Checked (List Record)
finish done pending c = c >>= λ rs. accepted (done ++ coalesce_pending pending rs)

-- a record and those to come, in order (`in_order` of what is not empty)
abbrev pub and_later : Checked Record → Checked (List Record) → Checked (List Record)
and_later first c = first >>= λ r. c >>= λ rs. accepted (r ∷ rs)

-- the records of a contig, behind row 10
unfoldable pub merged_contig : Input → List ℕ → Checked (List Record)
merged_contig x contig =
    in_order (map (interval_record x contig) (record_intervals x contig)) >>= λ records. accepted (coalesce_blocks records)

-- a block record from a first to a last position; END only if it has more than one
unfoldable pub block_record : List ℕ → ℕ → ℕ → List ℕ → List SampleData → Record
block_record contig first last ref vs = record {
  contig = contig;
  pos = first;
  end = only_if (ltb first last) last;
  alleles = record { ref = ref; alts = non_ref ∷ [] };
  sample_data = vs;
}
