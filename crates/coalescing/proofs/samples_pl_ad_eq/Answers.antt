-- The lines are the front of the buffer.
use borrow.Author.Rules.{rules}
use native.Mathlib.Nat.{sub-zero}
use Rattle.coalescing.proofs.samples_pl_ad_eq.Goals as goal

pub returns : goal.returns
returns c = rw (c.part-lines.ensures, sub-zero) at c.same_bytes.ensures
