-- The lines of a block that is held back: what laying them asks of the head and of the samples' lines behind it, and that both come to the
-- whole.
use Prim.Native.Nat.{◌+◌, ◌<◌, ◌^◌, ℕ}
use lib.ListN.{length, take}
use mathlib.Core.List.{List, [], ◌∷◌}
use native.Mathlib.Omega.{arith}
use Rattle.definitions.specs.Bytes.{text}
use Rattle.kv_write.proofs.Laying.{fits_first, fits_rest, laid_append}
use Rattle.kv_write.specs.Laid.{Laid}
use Rattle.record_lines.specs.Head.{HeadFits, head_of}
use Rattle.coalescing.specs.Held.{PendingFits, pending_bytes}
use Rattle.coalescing.specs.declared.PendingBlock.{PendingBlock}
use Rattle.std.specs.Prelude as std

-- `<NON_REF>`
abbrev non_ref_bytes : List ℕ
non_ref_bytes = 60 ∷ 78 ∷ 79 ∷ 78 ∷ 95 ∷ 82 ∷ 69 ∷ 70 ∷ 62 ∷ []

module _ (contig held : List ℕ) (block : PendingBlock) (at : ℕ) (h : PendingFits contig held (std.Some block) at) where
  pub block_head_fits : HeadFits contig block.loc.start.0 block.loc.end.0 (block.letter ∷ []) non_ref_bytes at
  unfolding PendingFits pending_bytes text
  block_head_fits = record {
    pos = omega (arith, h.ordered, h.in_range_lem);
    end = h.in_range_lem;
    fits = fits_first at (head_of contig block.loc.start.0 block.loc.end.0 (block.letter ∷ []) non_ref_bytes) (take block.len held) h.fits;
  }

  module _ {d d' : List ℕ} {at' : ℕ} (l : Laid d at (head_of contig block.loc.start.0 block.loc.end.0 (block.letter ∷ []) non_ref_bytes) d' at') where
    pub block_lines_fit : at' + length (take block.len held) < 2 ^ 64
    unfolding PendingFits pending_bytes text
    block_lines_fit = fits_rest (take block.len held) l h.fits

    pub block_laid : {d'' : List ℕ} {at'' : ℕ} → Laid d' at' (take block.len held) d'' at''
        → Laid d at (pending_bytes contig held (std.Some block)) d'' at''
    unfolding pending_bytes text
    block_laid m = laid_append l m
