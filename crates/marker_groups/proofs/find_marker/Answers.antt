-- The first marker with the name is the first from here on.
use Prim.Native.Nat.{◌≤◌}
use mathlib.Core.Path.{◌∙◌, sym}
use native.Mathlib.Omega.{arith}
use Rattle.marker_groups.proofs.Find.{found_end, found_here, found_next, found_start}
use Rattle.marker_groups.proofs.find_marker.Goals as goal

pub loop-i-init : goal.loop-i-init
loop-i-init c = found_start _ _ _ _

pub returns-then-same_bytes : goal.returns-then-same_bytes
returns-then-same_bytes c = sym
    (c.loop-i.invariant ∙ found_here _ _ _ _ _ c.loop-i-test.true
    (rw c.part_at.ensures at (sym c.same_bytes.ensures ∙ c.if-same_bytes.true)))

pub loop-i-preserved : goal.loop-i-preserved
loop-i-preserved c =
    c.loop-i.invariant ∙ found_next _ _ _ _ _ c.loop-i-test.true
    (rw c.part_at.ensures at (sym c.same_bytes.ensures ∙ c.if-same_bytes.false))

pub returns : goal.returns
returns c = sym (c.loop-i.invariant ∙ found_end _ _ _ _ _ c.loop-i-test.false)
