-- Nothing is laid, or the head and then the lines of the samples.
use borrow.Author.Rules.{rules}
use native.Mathlib.Nat.{sub-zero}
use Rattle.coalescing.proofs.Laying.{block_head_fits, block_laid, block_lines_fit}
use Rattle.coalescing.specs.Held.{pending_bytes}
use Rattle.kv_write.proofs.Laying.{laid_none}
use Rattle.coalescing.proofs.put_pending.Goals as goal

pub put_record_head-next-requires : goal.put_record_head-next-requires
put_record_head-next-requires c = block_head_fits _ _ _ _ (rw c.in-Some.is at c.requires)

pub put_bytes-requires : goal.put_bytes-requires
put_bytes-requires c = rw (c.part-lines.ensures, sub-zero) (block_lines_fit _ _ _ _ (rw c.in-Some.is at c.requires) c.put_record_head-next.ensures)

pub returns-in_default : goal.returns-in_default
unfolding pending_bytes
returns-in_default c = rw c.in_default.is laid_none

pub returns : goal.returns
returns c = rw c.in-Some.is
    (block_laid _ _ _ _ (rw c.in-Some.is at c.requires) c.put_record_head-next.ensures
    (rw (c.part-lines.ensures, sub-zero) at c.put_bytes.ensures))
