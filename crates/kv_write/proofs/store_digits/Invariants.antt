-- What is left to store are the digits of `left`, before the place.
use borrow.Author.Rules.{rules}
use lib.ListN.{length-set}
use mathlib.Core.Path.{◌∙◌, ◌≡◌, refl, sym}
use native.Mathlib.Omega.{arith}
use Rattle.kv_write.proofs.StoredDigits.{Unstored, digit_stored, first_stored, none_stored, some_digit}
use Rattle.kv_write.proofs.store_digits.Given as goal

abbrev pub invariant-loop-left : goal.invariant-loop-left
invariant-loop-left l = Unstored l.n l.to l.place l.left

abbrev pub decreases-loop-left : goal.decreases-loop-left
decreases-loop-left l = l.left
