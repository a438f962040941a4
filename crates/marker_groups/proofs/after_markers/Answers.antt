-- Name by name, the markers of those before stand in the list.
use mathlib.Core.Path.{◌∙◌, sym}
use native.Mathlib.Omega.{arith}
use Rattle.definitions.specs.Bytes.{comma}
use Rattle.kv_text.specs.Fields.{FieldFound}
use Rattle.marker_groups.proofs.Afters.{absent_not, found_all, found_more, found_start, found_unnamed}
use Rattle.marker_groups.specs.Markers.{AftersFound}
use Rattle.marker_groups.proofs.after_markers.Goals as goal

pub loop-i-init : goal.loop-i-init
loop-i-init c = found_start _ _ _ _ _ (c.requires.1)

pub returns-in_err-field : goal.returns-in_err-field
unfolding AftersFound FieldFound comma
returns-in_err-field c = rw c.from_residual.ensures
    (absent_not c.loop-i.invariant (omega (arith, c.count_names-names.ensures, c.loop-i-test.true)) c.in_err-field.ensures)

pub returns-in_err-found : goal.returns-in_err-found
unfolding AftersFound FieldFound comma
returns-in_err-found c = let h = c.in_ok-field.ensures in
    rw c.from_residual-in_err-found.ensures
    (found_unnamed _ _ _ _ c.loop-i.invariant (omega (arith, c.count_names-names.ensures, c.loop-i-test.true))
    c.in_ok-field.field.at c.in_ok-field.field.end h.1 (sym (rw c.part.ensures at c.in_err-found.ensures)))

pub loop-i-preserved : goal.loop-i-preserved
unfolding FieldFound comma
loop-i-preserved c = let h = c.in_ok-field.ensures in
    rw c.store.ensures
    (found_more _ _ _ _ c.loop-i.invariant (omega (arith, c.count_names-names.ensures, c.loop-i-test.true))
    c.in_ok-field.field.at c.in_ok-field.field.end h.1 c.requires.0 _ (sym (rw c.part.ensures at c.in_ok-found.ensures)))

pub returns : goal.returns
unfolding AftersFound
returns c = found_all _ _ _ _ c.loop-i.invariant _ (c.count_names-names.ensures) (c.loop-i-test.false)
