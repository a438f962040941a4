-- What is left to store are the digits of `left`, before the place.
use borrow.Author.Rules.{rules}
use lib.ListN.{length-set}
use mathlib.Core.Path.{◌∙◌, ◌≡◌, refl, sym}
use native.Mathlib.Omega.{arith}
use Rattle.kv_write.proofs.StoredDigits.{Unstored, digit_stored, first_stored, none_stored, some_digit}
use Rattle.kv_write.proofs.store_digits.Goals as goal

pub loop-left-init : goal.loop-left-init
loop-left-init c = none_stored _ _ c.requires

pub overflow_sub-place : goal.overflow_sub-place
overflow_sub-place c = omega (arith, some_digit c.loop-left.left)

pub bounds-to-place : goal.bounds-to-place
bounds-to-place c = omega (arith, some_digit c.loop-left.left)

pub loop-left-preserved : goal.loop-left-preserved
loop-left-preserved c = digit_stored c.loop-left-test.true c.loop-left.invariant

pub bounds-to-0 : goal.bounds-to-0
bounds-to-0 c = omega (arith, some_digit c.loop-left.left)

pub shape_of-to : goal.shape_of-to
shape_of-to c = simp length-set (c.loop-left.invariant.size ∙ sym c.requires)

pub returns : goal.returns
returns c = first_stored (omega arith) c.loop-left.invariant
