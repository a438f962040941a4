-- The block record that is held back until it is known whether the next one joins it.
use Rattle.std.specs.Prelude.{◌+◌, ◌<◌, ◌^◌, ◌≤◌, min, suc, ℕ, eqb, length, take, Bool, ◌&&◌, cond, false, ◌≡◌}
use Rattle.std.proofs.lemmas.List.Edits.{sets}
use mathlib.Core.List.{List, [], ◌++◌, ◌∷◌, flat_map}
use Rattle.std.proofs.Math.Option.{Option, none, some}
use Rattle.bio_ids.specs.declared.GenomePosition.{GenomePosition}
use Rattle.definitions.specs.Bytes.{same_bytes, text}
use Rattle.definitions.specs.Genotypes.{SampleData}
use Rattle.definitions.specs.Numbers.{max_number}
use Rattle.definitions.specs.Printed.{printed_sample_data}
use Rattle.definitions.specs.Records.{Record}
use Rattle.laws.proofs.Every.{Every}
use Rattle.list_header.specs.Measured.{limit, most_count}
use Rattle.record_laws.proofs.SamePrinted.{Derived}
use Rattle.record_laws.specs.Pending.{block_record}
use Rattle.record_lines.specs.Head.{head_of}
use Rattle.coalescing.specs.declared.PendingBlock.{PendingBlock}
use Rattle.std.specs.Prelude as std

-- its lines: the samples' data stand in a buffer
unfoldable pub pending_bytes : List ℕ → List ℕ → std.Option PendingBlock → List ℕ
pending_bytes contig held std.None = []
pending_bytes contig held (std.Some block) =
    head_of contig block.loc.start.0 block.loc.end.0 (block.letter ∷ []) (text "<NON_REF>") ++ take block.len held

-- where the list goes on behind them, held at its limit
unfoldable pub behind_pending : List ℕ → List ℕ → std.Option PendingBlock → ℕ → ℕ
behind_pending contig held pending at = min limit (at + length (pending_bytes contig held pending))

-- what laying it asks: positions as a file has them, and the offset behind its lines fits a usize
pub record BlockFits (contig held : List ℕ) (block : PendingBlock) (at : ℕ) : Type 0 where
  pub ordered : block.loc.start.0 ≤ block.loc.end.0
  pub in_range_lem : block.loc.end.0 ≤ max_number
  pub fits : at + length (pending_bytes contig held (std.Some block)) < 2 ^ 64

unfoldable pub PendingFits : List ℕ → List ℕ → std.Option PendingBlock → ℕ → Type 0
PendingFits contig held std.None at = Unit {0}
PendingFits contig held (std.Some block) at = BlockFits contig held block at

-- a block at a position joins it: it touches, the letter of REF agrees, and all samples' data, which is told by the bytes
unfoldable pub joins_pending : List ℕ → std.Option PendingBlock → ℕ → ℕ → List ℕ → Bool
joins_pending held std.None position letter fresh = false
joins_pending held (std.Some block) position letter fresh =
    eqb position (suc block.loc.end.0)
    && eqb block.letter letter
    && same_bytes (take block.len held) fresh

-- the lines that are held behind a block: those before it if it joins, else its own
unfoldable pub held_after : List ℕ → std.Option PendingBlock → ℕ → ℕ → List ℕ → List ℕ
held_after held pending position letter fresh =
    cond (joins_pending held pending position letter fresh) held (sets held 0 fresh)

-- it with another last position
unfoldable pub joined_to : std.Option PendingBlock → GenomePosition → std.Option PendingBlock
joined_to std.None end = std.None
joined_to (std.Some block) end = std.Some (record {
  loc = record { start = block.loc.start; end = end };
  letter = block.letter;
  len = block.len;
})

-- how many records there are with it, held at the greatest u32
unfoldable pub pending_count : std.Option PendingBlock → ℕ → ℕ
pending_count std.None count = count
pending_count (std.Some block) count = min most_count (count + 1)

-- the record that is held back
pub record HeldBlock (samples : ℕ) (contig held : List ℕ) (block : PendingBlock) (p : Record) : Type 0 where
  pub values : List SampleData
  pub record_is : p ≡ block_record contig block.loc.start.0 block.loc.end.0 (block.letter ∷ []) values
  pub derived : Every (Derived 2) values
  pub all_samples : length values ≡ samples
  pub printed : take block.len held ≡ flat_map printed_sample_data values
  pub ordered : block.loc.start.0 ≤ block.loc.end.0
  pub in_range_lem : block.loc.end.0 ≤ max_number

-- it in a list, if there is one
unfoldable pub of_option : Option Record → List Record
of_option none = []
of_option (some p) = p ∷ []

unfoldable pub Holds : ℕ → List ℕ → List ℕ → std.Option PendingBlock → Option Record → Type 0
Holds samples contig held std.None waiting = waiting ≡ none
Holds samples contig held (std.Some block) waiting = (p : Record) × (waiting ≡ some p) × HeldBlock samples contig held block p
