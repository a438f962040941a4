-- The first number, then in each turn a comma and a number: the numbers from i on are left, each behind a comma.
use Prim.Native.Nat.{◌-◌}
use borrow.Author.Rules.{rules}
use lib.ListN.{drop}
use mathlib.Core.Path.{◌∙◌}
use native.Mathlib.Omega.{arith}
use Rattle.definitions.specs.Numbers.{decimal}
use Rattle.kv_write.proofs.Laying.{Left, done, fits_first, fits_rest, laid_append, left_length, recast, room, several, start}
use Rattle.kv_write.proofs.NumberList.{behind, comma_laid, first_then, length_next, none_behind, others}
use Rattle.kv_write.proofs.put_each_number.Goals as goal

pub put_number-next-requires : goal.put_number-next-requires
put_number-next-requires c = let pre = c.requires in
    fits_first _ (decimal _) _ (rw (first_then _ pre.0) at pre.1)

pub loop-n-init : goal.loop-n-init
loop-n-init c = let pre = c.requires in
    start (fits_rest _ c.put_number-next.ensures (rw (first_then _ pre.0) at pre.1))

pub put_byte-next-requires : goal.put_byte-next-requires
put_byte-next-requires c = omega (arith, length_next (others c.args.numbers.now) c.loop-n.n-index c.loop-n-test.true, c.loop-n.invariant.fits)

pub put_number-next-requires-in-loop-n : goal.put_number-next-requires-in-loop-n
put_number-next-requires-in-loop-n c = let below = c.loop-n-test.true in
    let inv = c.loop-n.invariant in
    room (decimal _) _ (comma_laid _ _ below c.put_byte-next.ensures inv)

pub loop-n-preserved : goal.loop-n-preserved
loop-n-preserved c = let below = c.loop-n-test.true in
    let inv = c.loop-n.invariant in
    let comma = c.put_byte-next.ensures in
    several c.put_number-next-in-loop-n.ensures (comma_laid _ _ below comma inv)

pub shape_of-out : goal.shape_of-out
shape_of-out c = left_length c.loop-n.invariant ∙ c.put_number-next.auto.out

pub returns : goal.returns
returns c = let pre = c.requires in
    let rest = done (recast (none_behind _ _ c.loop-n-test.false) c.loop-n.invariant) in
    rw (first_then _ pre.0) (laid_append c.put_number-next.ensures rest)
