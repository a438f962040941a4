-- The lines, then the names, then a row more.
use mathlib.Core.Path.{◌∙◌, refl, sym}
use native.Mathlib.Omega.{arith}
use Rattle.site_groups.proofs.Refusals.{none_is}
use Rattle.marker_groups.proofs.Find.{some_found}
use Rattle.marker_groups.proofs.Reading.{marker_to, repeated, too_many, unnamed}
use Rattle.marker_groups.specs.Markers.{AftersFound, LinesRead, MarkerRead}
use Rattle.marker_groups.proofs.marker_at.Goals as goal

pub returns-in_err-lines : goal.returns-in_err-lines
unfolding LinesRead MarkerRead
returns-in_err-lines c =
    let none = c.in_err-lines.ensures.ok_part in
    rw (none_is _ _ _ _ c.from_residual.ensures.1 c.in_err-lines.ensures.value none) ((rw none at c.marker_lines.ensures) _)

pub returns-then-count-ge500 : goal.returns-then-count-ge500
unfolding LinesRead MarkerRead
returns-then-count-ge500 c = too_many (rw c.in_ok-lines.ensures.ok_part at c.marker_lines.ensures) _ _ c.if-count-ge500.true

pub returns-then-is_some : goal.returns-then-is_some
unfolding LinesRead MarkerRead
returns-then-is_some c =
    let f = rw c.part-name.ensures at c.find_marker.ensures in
    repeated (rw c.in_ok-lines.ensures.ok_part at c.marker_lines.ensures) _ _ (omega (arith, c.if-count-ge500.false))
    (sym (some_found _ _ _ _ _ f c.is_some.ensures) ∙ c.if-is_some.true)

pub after_markers-requires : goal.after_markers-requires
unfolding LinesRead
after_markers-requires c =
    let l = rw c.in_ok-lines.ensures.ok_part at c.marker_lines.ensures in
    (rw c.part-list.ensures l.few, refl)

pub returns-in_err-names : goal.returns-in_err-names
unfolding LinesRead MarkerRead AftersFound
returns-in_err-names c =
    let f = rw c.part-name.ensures at c.find_marker.ensures in
    let new = sym (some_found _ _ _ _ _ f c.is_some.ensures) ∙ c.if-is_some.false in
    let none = c.in_err-names.ensures.ok_part in
    rw (none_is _ _ _ _ c.from_residual-in_err-names.ensures.1 c.in_err-names.ensures.value none)
    (unnamed (rw c.in_ok-lines.ensures.ok_part at c.marker_lines.ensures) _ _ (omega (arith, c.if-count-ge500.false)) new
    (rw (c.part-list.ensures, none) at c.after_markers.ensures))

pub put_marker-requires : goal.put_marker-requires
put_marker-requires c = omega (arith, c.requires, c.if-count-ge500.false)

pub returns : goal.returns
unfolding LinesRead MarkerRead AftersFound
returns c =
    let f = rw c.part-name.ensures at c.find_marker.ensures in
    let new = sym (some_found _ _ _ _ _ f c.is_some.ensures) ∙ c.if-is_some.false in
    marker_to (rw c.in_ok-lines.ensures.ok_part at c.marker_lines.ensures) _ _ (omega (arith, c.if-count-ge500.false)) new _ _
    (rw (c.part-list.ensures, c.in_ok-names.ensures.ok_part) at c.after_markers.ensures) c.requires _
    c.put_marker.ensures
