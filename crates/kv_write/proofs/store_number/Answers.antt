-- By how long the number is.
use borrow.Author.Rules.{rules}
use mathlib.Core.Path.{refl}
use native.Mathlib.Omega.{arith}
use Rattle.kv_write.proofs.Laying.{laid_whole}
use Rattle.kv_write.proofs.StoredDigits.{length_most}
use Rattle.kv_write.proofs.store_number.Goals as goal

pub number_end-end-requires : goal.number_end-end-requires
number_end-end-requires c = omega (arith, length_most c.args.n (omega arith))

pub slice_bounds-store_digits-end : goal.slice_bounds-store_digits-end
slice_bounds-store_digits-end c = omega (arith, length_most c.args.n (omega arith), c.number_end-end.ensures)

pub returns : goal.returns
returns c = rw c.number_end-end.ensures (laid_whole refl (omega (arith, length_most c.args.n (omega arith))) c.store_digits.ensures)
