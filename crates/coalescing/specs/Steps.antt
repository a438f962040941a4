-- What laying records one after the other asks and leaves.
use Rattle.std.specs.Prelude.{◌+◌, ◌≤◌, min, ℕ, length, cond, false, ◌≡◌}
use mathlib.Core.List.{List, [], ◌++◌, flat_map}
use Rattle.std.proofs.Math.Option.{Option}
use Rattle.bio_ids.specs.declared.GenomeLoc.{GenomeLoc}
use Rattle.definitions.specs.Alleles.{is_block}
use Rattle.definitions.specs.Checked.{Checked, accepted}
use Rattle.definitions.specs.Printed.{printed_record}
use Rattle.definitions.specs.Records.{Record}
use Rattle.list_header.specs.Measured.{Counted, Measured, limit, most_count}
use Rattle.record_laws.specs.Pending.{and_later, finish}
use Rattle.coalescing.specs.Held.{Holds, PendingFits, behind_pending, joined_to, joins_pending, pending_bytes, pending_count}
use Rattle.coalescing.specs.declared.PendingBlock.{PendingBlock}
use Rattle.coalescing.specs.declared.Stepped.{Stepped}
use Rattle.std.specs.Prelude as std

-- what the next block record asks: the one that is held back can be laid, and the new lines fit the buffer
pub record BlockReady (contig held fresh : List ℕ) (pending : std.Option PendingBlock) (at : ℕ) : Type 0 where
  pub fits : PendingFits contig held pending at
  pub room : length fresh ≤ length held

-- the lines that the next block record lays: those of the one that is held back, unless it joins that one
unfoldable pub block_lays : List ℕ → List ℕ → std.Option PendingBlock → ℕ → ℕ → List ℕ → List ℕ
block_lays contig held pending position letter fresh =
    cond (joins_pending held pending position letter fresh) [] (pending_bytes contig held pending)

-- what it leaves: the one that is held back goes on to its end; or that one is laid and counted, and this one is held back
unfoldable pub block_stepped : List ℕ → List ℕ → std.Option PendingBlock → GenomeLoc → ℕ → List ℕ → ℕ → ℕ → Stepped
block_stepped contig held pending loc letter fresh at count =
    cond (joins_pending held pending loc.start.0 letter fresh)
    (record { pending = joined_to pending loc.end; at = at; count = count })
    (record {
      pending = std.Some (record { loc = loc; letter = letter; len = length fresh });
      at = behind_pending contig held pending at;
      count = pending_count pending count;
    })

-- what `lay_pending` leaves: nothing is held back, the one that was is laid and counted
unfoldable pub pending_laid : List ℕ → List ℕ → std.Option PendingBlock → ℕ → ℕ → Stepped
pending_laid contig held pending at count =
    record { pending = std.None; at = behind_pending contig held pending at; count = pending_count pending count }

-- and behind it a record with these lines
unfoldable pub record_stepped : ℕ → List ℕ → ℕ → Stepped
record_stepped next lines count = record { pending = std.None; at = min limit (next + length lines); count = min most_count (count + 1) }

-- a record that is no block, with these lines
pub record OtherRecord (lines : List ℕ) (r : Record) : Type 0 where
  pub not_block : is_block r.alleles ≡ false
  pub printed : printed_record r ≡ lines

-- bytes were laid over a buffer from its beginning on, and are so many records; offset and count are held below their limits
pub record Progress (d₀ bytes : List ℕ) (records : ℕ) (d : List ℕ) (at count : ℕ) : Type 0 where
  pub measured : Measured d₀ bytes d at
  pub counted : Counted records count

-- the records that are laid now, and the one that waits: all goes on with them as it would have gone on with the new record
pub record StepTo (samples : ℕ) (contig held out : List ℕ) (waiting : Option Record) (new : Record) (d₀ bytes : List ℕ) (records : ℕ)
    (r : Stepped) : Type 0 where
  pub laid : List Record
  pub waits : Option Record
  pub holds : Holds samples contig held r.pending waits
  pub progress : Progress d₀ (bytes ++ flat_map printed_record laid) (records + length laid) out r.at r.count
  pub turned : (done : List Record) (m : Checked Record) (c : Checked (List Record)) → m ≡ accepted new
      → finish done waiting (and_later m c) ≡ finish (done ++ laid) waits c
