-- Place by place.
use Prim.Native.Nat.{◌-◌}
use borrow.Author.Rules.{rules}
use lib.ListN.{length}
use mathlib.Core.Path.{refl}
use native.Mathlib.Omega.{arith}
use Rattle.contig_looks.proofs.Counting.{Through, place_ready, through_end, through_next, through_start}
use Rattle.contig_looks.specs.Counting.{CountReady}
use Rattle.contig_looks.proofs.count_place.Reads as count-place-reads
use Rattle.contig_looks.proofs.count_window.Goals as goal

pub loop-place-init : goal.loop-place-init
loop-place-init c = λ ready. through_start ready

pub count_place-along-requires : goal.count_place-along-requires
unfolding place_ready
count_place-along-requires c = let ready = c.requires in
    (_, place_ready ready (c.loop-place.invariant ready) c.loop-place-test.true)

pub loop-place-preserved : goal.loop-place-preserved
unfolding place_ready
loop-place-preserved c = λ ready.
    let through = c.loop-place.invariant ready in
    let more = c.loop-place-test.true in
    through_next ready through more (c.count_place-along.ensures _ (place_ready ready through more))

pub returns : goal.returns
returns c = λ ready. through_end ready (c.loop-place.invariant ready) (omega (arith, c.loop-place-test.false))
