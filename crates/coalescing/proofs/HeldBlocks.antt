-- The block record that is held back: its lines, when the next block joins it, and it with that block.
use Prim.Native.Nat.{Ordering, ◌*◌, ◌^◌, ◌≤◌, compare, suc, ℕ}
use borrow.Author.Tests.{eqb-true}
use lib.Dec.{eqb, compare_is_eq, ltb}
use lib.ListN.{length, length-append}
use mathlib.Core.Bool.{Bool, ◌&&◌, false, true}
use mathlib.Core.List.{List, [], ◌++◌, ◌∷◌, append-nil, flat_map}
use mathlib.Core.Option.{Option, some}
use mathlib.Core.Path.{◌∙◌, ◌≡◌, ap, refl, sym}
use native.Mathlib.Omega.{arith}
use Rattle.bio_ids.specs.declared.GenomePosition.{GenomePosition}
use Rattle.definitions.specs.Alleles.{spelled, written_alleles}
use Rattle.definitions.specs.Bytes.{and_then, compare_bytes, joined_by, same_bytes, text}
use Rattle.definitions.specs.Genotypes.{SampleData}
use Rattle.definitions.specs.Lists.{only_if, same_each}
use Rattle.definitions.specs.Numbers.{decimal, max_number, written_or_missing}
use Rattle.definitions.specs.Printed.{printed_record, printed_sample_data}
use Rattle.definitions.specs.Records.{Record, coalesced, coalesces, same_sample_data}
use Rattle.laws.proofs.Every.{Every, every_map}
use Rattle.laws.proofs.Tests.{both_of}
use Rattle.record_laws.proofs.Coalescing.{block_records_coalesce, block_records_coalesced}
use Rattle.record_laws.proofs.Lengths.{all_block_data_few, decimal_few}
use Rattle.record_laws.proofs.SamePrinted.{Derived, same_printed}
use Rattle.record_laws.specs.Pending.{block_record}
use Rattle.record_lines.proofs.Head.{head_length, printed_record_lem}
use Rattle.record_lines.specs.Head.{end_from, head_of}
use Rattle.coalescing.specs.Held.{HeldBlock, Holds, PendingFits, joined_to, joins_pending, of_option, pending_bytes}
use Rattle.coalescing.specs.declared.PendingBlock.{PendingBlock}
use Rattle.std.specs.Prelude as std

-- ---- its lines

block_printed : (contig : List ℕ) (first last : ℕ) (ref : List ℕ) (vs : List SampleData)
    → printed_record (block_record contig first last ref vs)
    ≡ head_of contig first last ref (text "<NON_REF>") ++ flat_map printed_sample_data vs
unfolding block_record written_alleles spelled joined_by
block_printed contig first last ref vs =
    printed_record_lem (block_record contig first last ref vs) last refl refl refl refl refl

module _ (samples : ℕ) (contig held : List ℕ) where
  pub held_printed : (pending : std.Option PendingBlock) (waiting : Option Record) → Holds samples contig held pending waiting
      → pending_bytes contig held pending ≡ flat_map printed_record (of_option waiting)
  unfolding Holds pending_bytes of_option flat_map
  held_printed std.None waiting h = rw h
  held_printed (std.Some block) waiting (p, e, h) =
      rw (e, h.record_is, append-nil, h.printed)
      (sym (block_printed contig block.loc.start.0 block.loc.end.0 (block.letter ∷ []) h.values))

-- ---- the next block

-- the same letter, as a number and as bytes
same_letter : (own letter : ℕ) → eqb own letter ≡ same_bytes (own ∷ []) (letter ∷ [])
unfolding same_bytes compare_bytes and_then
same_letter own letter = go (compare own letter)
  where
    go : (o : Ordering) → compare_is_eq o ≡ compare_is_eq (and_then o Ordering.eq)
    go Ordering.lt = refl
    go Ordering.eq = refl
    go Ordering.gt = refl

module _ (samples : ℕ) (contig held : List ℕ) (block : PendingBlock) (p : Record) (h : HeldBlock samples contig held block p)
    (position last' letter : ℕ) (vs : List SampleData) where
  -- the next block's record
  abbrev next : Record
  next = block_record contig position last' (letter ∷ []) vs

  coalesce_by : coalesces p next
      ≡ (eqb position (suc block.loc.end.0) && same_bytes (block.letter ∷ []) (letter ∷ []) && same_each same_sample_data h.values vs)
  coalesce_by =
      ap (λ (q : Record). coalesces q next) h.record_is
      ∙ block_records_coalesce contig block.loc.start.0 block.loc.end.0 (block.letter ∷ []) h.values
      contig position last' (letter ∷ []) vs h.ordered refl refl

  pub held_joins : (fresh : List ℕ) → Every (Derived 2) vs → flat_map printed_sample_data vs ≡ fresh
      → joins_pending held (std.Some block) position letter fresh ≡ coalesces p next
  unfolding joins_pending
  held_joins fresh derived printed =
      rw (same_letter block.letter letter, h.printed, ← printed, ← same_printed 2 h.values vs (omega arith) h.derived derived)
      (sym coalesce_by)

pub holds_joined : (samples : ℕ) (contig held : List ℕ) (block : PendingBlock) (p : Record) → HeldBlock samples contig held block p
    → (position : ℕ) (last' : GenomePosition) (letter : ℕ) (vs : List SampleData) → position ≤ last'.0 → last'.0 ≤ max_number
    → coalesces p (block_record contig position last'.0 (letter ∷ []) vs) ≡ true
    → Holds samples contig held (joined_to (std.Some block) last')
    (some (coalesced p (block_record contig position last'.0 (letter ∷ []) vs)))
unfolding Holds joined_to
holds_joined samples contig held block p h position last' letter vs ordered in_range_lem joins =
    let tests = sym (coalesce_by samples contig held block p h position last'.0 letter vs) ∙ joins in
    let touches : position ≡ suc block.loc.end.0 = eqb-true _ _ (both_of _ _ (both_of _ _ tests).0).0 in (
      _,
      refl,
      record {
        values = h.values;
        record_is =
            ap (λ (q : Record). coalesced q (block_record contig position last'.0 (letter ∷ []) vs)) h.record_is
            ∙ block_records_coalesced contig block.loc.start.0 block.loc.end.0 (block.letter ∷ []) h.values
            contig position last'.0 (letter ∷ []) vs (omega (arith, h.ordered)) ordered;
        derived = h.derived;
        all_samples = h.all_samples;
        printed = h.printed;
        ordered = omega (arith, h.ordered);
        in_range_lem = in_range_lem;
      },
    )

-- ---- its length

end_few : (first last : ℕ) → last ≤ max_number → length (written_or_missing decimal (end_from first last)) ≤ 10
unfolding written_or_missing only_if text
end_few first last h = go (ltb first last)
  where
    go : (t : Bool) → length (written_or_missing decimal (only_if t last)) ≤ 10
    go true = decimal_few last h
    go false = omega arith

pub held_short : (samples : ℕ) (contig held : List ℕ) (block : PendingBlock) (p : Record) → HeldBlock samples contig held block p
    → samples ≤ 64 → length contig ≤ 32 → length (pending_bytes contig held (std.Some block)) ≤ 16384
unfolding pending_bytes text
held_short samples contig held block p h few short =
    let lines : length (flat_map printed_sample_data h.values) ≤ 128 * length h.values =
    all_block_data_few (every_map (λ v d. d.sound) h.derived) in
    rw h.printed
    (simp (length-append, head_length)
    (omega (
      arith,
      lines,
      h.all_samples,
      h.ordered,
      h.in_range_lem,
      decimal_few block.loc.start.0 (omega (arith, h.ordered, h.in_range_lem)),
      end_few block.loc.start.0 block.loc.end.0 h.in_range_lem,
    )))

-- so that it can be laid, at offsets up to 2^63
pub holds_fits : (samples : ℕ) (contig held : List ℕ) (pending : std.Option PendingBlock) (waiting : Option Record) (at : ℕ)
    → Holds samples contig held pending waiting → samples ≤ 64 → length contig ≤ 32 → at ≤ 2 ^ 63
    → PendingFits contig held pending at
unfolding Holds PendingFits
holds_fits samples contig held std.None waiting at h few short room = tt
holds_fits samples contig held (std.Some block) waiting at (p, e, h) few short room = record {
  ordered = h.ordered;
  in_range_lem = h.in_range_lem;
  fits = omega (arith, held_short samples contig held block p h few short);
}
