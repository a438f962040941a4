-- What the counts become along all records is what they become along those that are left.
use Prim.Native.Nat.{◌-◌}
use lib.ListN.{length}
use mathlib.Core.Path.{◌∙◌, ◌≡◌, refl, sym}
use native.Mathlib.Omega.{arith}
use Rattle.definitions.specs.Checked.{accepted}
use Rattle.laws.proofs.Checked.{accepted_same, not_refused}
use Rattle.list_walk.specs.Walk.{SteppedFrom}
use Rattle.depth_windows.proofs.Counting.{count_ready, count_start}
use Rattle.depth_windows.proofs.Places.{place_added_lem}
use Rattle.depth_windows.proofs.Walking.{walk_end, walk_next, walk_refused}
use Rattle.depth_windows.proofs.add_records.Goals as goal

pub loop-place-init : goal.loop-place-init
loop-place-init c = (refl, λ ready. rw (c.first_group-cursor.ensures) (count_start ready))

pub add_record-requires : goal.add_record-requires
unfolding SteppedFrom
add_record-requires c =
    count_ready c.requires (c.loop-place.invariant.1 c.requires) (rw c.in-Ok-Some.field-0-is at c.in-Ok-Some.ensures)

pub loop-place-smaller : goal.loop-place-smaller
unfolding SteppedFrom
loop-place-smaller c = let r = rw c.in-Ok-Some.field-0-is at c.in-Ok-Some.ensures in omega (arith, r.forward, r.within)

pub loop-place-preserved : goal.loop-place-preserved
unfolding SteppedFrom
loop-place-preserved c = let r = rw c.in-Ok-Some.field-0-is at c.in-Ok-Some.ensures in (
  c.add_record.auto.counts ∙ c.loop-place.invariant.0,
  λ ready. rw
      (c.add_record.ensures ∙ place_added_lem r.to c.args.contig.now c.args.asked c.args.windows
      c.loop-place.counts ready.sample_there) (walk_next _ _ _ (c.loop-place.invariant.1 ready) r),
)

pub returns-in-Ok-None : goal.returns-in-Ok-None
unfolding SteppedFrom
returns-in-Ok-None c = λ ready.
    accepted_same (sym (walk_end _ _ _ (c.loop-place.invariant.1 ready) (rw c.in-Ok-None.field-0-is at c.in-Ok-None.ensures)))

pub returns-in-Err : goal.returns-in-Err
unfolding SteppedFrom
returns-in-Err c = λ ready. not_refused (sym (walk_refused _ _ _ (c.loop-place.invariant.1 ready) c.in-Err.ensures))
