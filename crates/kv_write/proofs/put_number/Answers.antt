-- By how much room there is; where there may be too little, the digits are stored apart and then laid.
use Prim.Native.Nat.{◌≤◌, ℕ}
use borrow.Author.Rules.{rules}
use lib.ListN.{drop, length, take}
use lib.Seq.{take_at}
use mathlib.Core.List.{List}
use mathlib.Core.Path.{◌∙◌, ◌≡◌, refl}
use native.Mathlib.Nat.{zero-add}
use native.Mathlib.Omega.{arith}
use Rattle.kv_write.proofs.Laying.{laid_length, laid_past, sets_front}
use Rattle.kv_write.proofs.StoredDigits.{length_most}
use Rattle.kv_write.specs.Laid.{Laid}
use Rattle.kv_write.proofs.put_number.Goals as goal

-- what is laid from the start on, where it fits, is what stands in front
whole-within : {d d' bytes : List ℕ} {count : ℕ} → Laid d 0 bytes d' count → length bytes ≤ length d → count ≤ length d'
whole-within p h = omega (arith, p.next, laid_length p)

whole-front : {d d' bytes : List ℕ} {count : ℕ} → Laid d 0 bytes d' count → length bytes ≤ length d → take count d' ≡ bytes
whole-front {d} {d'} {bytes} {count} p h =
    rw (p.laid ∙ sets_front d bytes h) (take_at bytes (drop (length bytes) d) count (omega (arith, p.next)))

pub returns-then-out-at : goal.returns-then-out-at
returns-then-out-at c = rw c.number_end.ensures (laid_past refl c.if-out-at.true)

pub slice_bounds-whole-end : goal.slice_bounds-whole-end
slice_bounds-whole-end c = whole-within c.store_number-count.ensures (length_most c.args.n (omega arith))

pub slice_bounds-put_bytes-end : goal.slice_bounds-put_bytes-end
slice_bounds-put_bytes-end c = rw (whole-front c.store_number-count.ensures (length_most c.args.n (omega arith))) (c.store_number-count.ensures.next ∙ zero-add _)

pub put_bytes-requires : goal.put_bytes-requires
put_bytes-requires c = rw (whole-front c.store_number-count.ensures (length_most c.args.n (omega arith))) c.requires

pub returns : goal.returns
returns c = rw (whole-front c.store_number-count.ensures (length_most c.args.n (omega arith))) at c.put_bytes.ensures
