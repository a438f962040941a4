-- All values, or those before the dropped allele's entry and those behind it.
use Prim.Native.Nat.{◌+◌}
use borrow.Author.Rules.{rules}
use lib.ListN.{length-drop, length-take}
use native.Mathlib.Omega.{arith}
use Rattle.called_genotypes.proofs.Folded.{laid_filled, none_dropped, parts_stored}
use Rattle.called_genotypes.proofs.remap_ad.Goals as goal

pub returns-then-ad-x : goal.returns-then-ad-x
returns-then-ad-x c = rw (none_dropped (c.args.dropped.0) (c.args.ad.now) (omega (arith, c.get-x.ensures, c.if-ad-x.true))) (laid_filled (c.store_values.ensures))

pub slice_bounds-store_values-end : goal.slice_bounds-store_values-end
slice_bounds-store_values-end c = omega (arith, length-take (c.get-x.result) (c.args.ad.now), c.if-ad-x.false)

pub store_values-next-requires : goal.store_values-next-requires
store_values-next-requires c = omega (arith, length-take (c.get-x.result) (c.args.ad.now))

pub store_values-requires-2 : goal.store_values-requires-2
store_values-requires-2 c = omega (arith, c.if-ad-x.false, c.store_values-next.ensures.next, length-take (c.get-x.result) (c.args.ad.now), length-drop (c.get-x.result + 1) (c.args.ad.now))

pub returns : goal.returns
returns c = parts_stored (c.args.dropped.0) (c.args.ad.now) (c.get-x.ensures) (c.store_values-next.ensures) (c.store_values-2.ensures)
