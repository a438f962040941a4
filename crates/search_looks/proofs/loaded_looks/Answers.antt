-- Row 10; then the figure, in the places that are lent or in the call's own.
use borrow.Author.Rules.{rules}
use mathlib.Core.Path.{◌∙◌, sym}
use native.Mathlib.Omega.{arith}
use Rattle.search_looks.proofs.Figure.{placed, placeless}
use Rattle.search_looks.proofs.loaded_looks.Goals as goal

pub returns-then-lacks_place : goal.returns-then-lacks_place
returns-then-lacks_place c = λ ready. placeless ready _ _ (sym c.lacks_place.ensures ∙ c.if-lacks_place.true)

pub looks_in_windows-requires : goal.looks_in_windows-requires
looks_in_windows-requires c = (c.requires.0, c.requires.1, omega arith)

pub returns-then-scratch-ge1024 : goal.returns-then-scratch-ge1024
returns-then-scratch-ge1024 c = λ ready.
    c.looks_in_windows.ensures ready ∙ placed ready _ _ (sym c.lacks_place.ensures ∙ c.if-lacks_place.false)

pub looks_in_windows-requires-2 : goal.looks_in_windows-requires-2
looks_in_windows-requires-2 c = (c.requires.0, c.requires.1, omega arith)

pub returns : goal.returns
returns c = λ ready.
    c.looks_in_windows-2.ensures ready ∙ placed ready _ _ (sym c.lacks_place.ensures ∙ c.if-lacks_place.false)
