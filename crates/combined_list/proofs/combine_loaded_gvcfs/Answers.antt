-- Row 10; then the list, in the places that are lent or in the call's own.
use borrow.Author.Rules.{rules}
use native.Mathlib.Omega.{arith}
use mathlib.Core.Path.{◌∙◌, sym}
use Rattle.combined_list.proofs.ListReady.{placed_answered, placeless_refused}
use Rattle.combined_list.proofs.combine_loaded_gvcfs.Goals as goal

pub returns-then-lacks_place : goal.returns-then-lacks_place
returns-then-lacks_place c = λ call. placeless_refused call _ (sym c.lacks_place.ensures ∙ c.if-lacks_place.true) _

pub combine_in_windows-requires : goal.combine_in_windows-requires
combine_in_windows-requires c = (c.requires.0, c.requires.1, omega arith)

pub returns-then-scratch-ge1024 : goal.returns-then-scratch-ge1024
returns-then-scratch-ge1024 c = λ call. placed_answered call _ (sym c.lacks_place.ensures ∙ c.if-lacks_place.false) (c.combine_in_windows.ensures call)

pub combine_in_windows-requires-2 : goal.combine_in_windows-requires-2
combine_in_windows-requires-2 c = (c.requires.0, c.requires.1, omega arith)

pub returns : goal.returns
returns c = λ call. placed_answered call _ (sym c.lacks_place.ensures ∙ c.if-lacks_place.false) (c.combine_in_windows-2.ensures call)
