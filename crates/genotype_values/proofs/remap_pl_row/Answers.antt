-- What is left of the row from `low` on; where no room is left, laying it changes nothing.
use Prim.Native.Nat.{◌-◌, ◌<◌}
use lib.ListN.{length-take}
use lib.Seq.{get_or-take}
use borrow.Author.Rules.{rules}
use mathlib.Core.Path.{◌∙◌, refl}
use native.Mathlib.Omega.{arith}
use Rattle.genotype_values.proofs.Rows.{RowLeft, row_end, row_next, row_same_length, row_start}
use Rattle.genotype_values.proofs.remap_pl_row.Goals as goal

pub bounds-map-last : goal.bounds-map-last
bounds-map-last c = omega (arith, c.get-last.ensures, c.requires)

pub loop-low-init : goal.loop-low-init
loop-low-init c = row_start

pub place_in_row-requires : goal.place_in_row-requires
place_in_row-requires c = rw c.reference.ensures at c.place_of-row.ensures

pub loop-low-preserved : goal.loop-low-preserved
loop-low-preserved c =
    let room = rw c.saturating_sub.ensures at c.min-room.ensures in
    let l : c.loop-low.low < c.min-room.result = omega (arith, simp length-take at c.loop-low-test.true) in
    row_next (omega (arith, room)) (c.new-a.ensures ∙ get_or-take c.min-room.result c.args.map.now c.loop-low.low 0 l) c.new-b.ensures c.place_in_row.ensures
    c.value_or.ensures refl c.loop-low.invariant

pub shape_of-out : goal.shape_of-out
shape_of-out c = row_same_length (c.loop-low.invariant)

pub returns : goal.returns
returns c =
    let room = rw c.saturating_sub.ensures at c.min-room.ensures in
    rw (← c.get-last.ensures) (row_end (omega (arith, room, simp length-take at c.loop-low-test.false, c.get-last.ensures, c.requires)) c.loop-low.invariant)
