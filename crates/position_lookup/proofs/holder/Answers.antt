-- The tests of `holds_place`, one after the other.
use mathlib.Core.Path.{◌∙◌, sym}
use native.Mathlib.Omega.{arith}
use Rattle.position_lookup.proofs.Holding.{before_first, holds, none_read, other_contig, past_end, some_read}
use Rattle.position_lookup.proofs.holder.Goals as goal

pub returns-in_err-last : goal.returns-in_err-last
returns-in_err-last c = rw c.from_residual.ensures (λ stands. none_read stands _ c.in_err-last.was)

pub returns-then-not-same_bytes : goal.returns-then-not-same_bytes
returns-then-not-same_bytes c = λ stands. other_contig stands _ c.in_ok-last.was _
    (rw c.part-on.ensures at (sym c.same_bytes.ensures) ∙ c.if-not-same_bytes.true)

pub returns-then-get : goal.returns-then-get
returns-then-get c = λ stands. before_first stands _ c.in_ok-last.was _ (omega (arith, c.get.ensures, c.get-2.ensures, c.if-get.true))

pub returns-then-get-2 : goal.returns-then-get-2
returns-then-get-2 c = λ stands. past_end stands _ c.in_ok-last.was _ (omega (arith, c.get-3.ensures, c.get-4.ensures, c.if-get-2.true))

pub overflow_sub-result : goal.overflow_sub-result
overflow_sub-result c = omega (arith, some_read c.requires _ c.in_ok-last.was)

pub returns : goal.returns
returns c = λ stands. holds stands _ c.in_ok-last.was _
    (rw c.part-on.ensures at (sym c.same_bytes.ensures) ∙ c.if-not-same_bytes.false)
    (omega (arith, c.get.ensures, c.get-2.ensures, c.if-get.false))
    (omega (arith, c.get-3.ensures, c.get-4.ensures, c.if-get-2.false))
