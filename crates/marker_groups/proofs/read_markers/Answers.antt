-- Marker by marker, each behind those of the table.
use Prim.Native.Nat.{◌-◌, ◌≤◌}
use lib.ListN.{length}
use mathlib.Core.Path.{◌∙◌, refl}
use native.Mathlib.Omega.{arith}
use Rattle.definitions.specs.Answers.{scratch_after}
use Rattle.marker_groups.proofs.Reading.{reading_end, reading_next, reading_refused, reading_start}
use Rattle.marker_groups.specs.Markers.{MarkerRead, MarkersRead}
use Rattle.tables.proofs.Cleared.{scratch_same}
use Rattle.marker_groups.proofs.read_markers.Goals as goal

pub returns-then-rows-lt6500 : goal.returns-then-rows-lt6500
unfolding MarkersRead
returns-then-rows-lt6500 c = record { no_room = c.if-rows-lt6500.true; same = refl }

pub loop-at-init : goal.loop-at-init
loop-at-init c = (reading_start _ _, omega (arith, c.if-rows-lt6500.false))

pub marker_at-requires : goal.marker_at-requires
marker_at-requires c = omega (arith, c.loop-at.invariant.0.long, c.loop-at.invariant.1)

pub returns-in-Err : goal.returns-in-Err
unfolding MarkersRead MarkerRead scratch_after
returns-in-Err c = record {
  value = reading_refused c.loop-at.invariant.0 c.loop-at-test.true _ c.in-Err.ensures;
  cleared = c.clear.ensures ∙ scratch_same _ _ (c.marker_at.auto.rows ∙ c.loop-at.invariant.0.long);
}

pub overflow_add-count : goal.overflow_add-count
overflow_add-count c = let few = c.loop-at.invariant.0.sound.few in omega arith

pub loop-at-smaller : goal.loop-at-smaller
unfolding MarkerRead
loop-at-smaller c = let to = c.in-Ok.ensures in omega (arith, to.forward, to.within, c.loop-at-test.true)

pub loop-at-preserved : goal.loop-at-preserved
unfolding MarkerRead
loop-at-preserved c = (
  reading_next c.loop-at.invariant.0 c.loop-at-test.true _ _ c.in-Ok.ensures c.marker_at.auto.rows,
  c.loop-at.invariant.1,
)

pub returns : goal.returns
unfolding MarkersRead
returns c = reading_end (c.loop-at.invariant.0) (c.loop-at-test.false)
