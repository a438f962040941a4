use mathlib.Core.Path.{◌∙◌, ap, refl, sym}
use Rattle.depth_windows.proofs.Whole.{fill_ready, filled_over, given_refused, given_same, given_windows, no_windows, not_right}
use Rattle.depth_windows.specs.Along.{extent_span}
use Rattle.depth_windows.proofs.windows_over.Goals as goal

pub returns-then-not-asked_right : goal.returns-then-not-asked_right
returns-then-not-asked_right c = λ ready. given_refused (not_right _ _ _ _ _ ready.value (sym (c.asked_right.ensures) ∙ c.if-not-asked_right.true)) refl

pub fill_windows-requires : goal.fill_windows-requires
fill_windows-requires c = fill_ready _ _ _ _ 0 c.requires.value (sym c.asked_right.ensures ∙ c.if-not-asked_right.false) _ _
    (sym (ap extent_span c.in-Some.is) ∙ c.requires.extent_is) refl refl refl refl c.requires.few

pub returns-in_default : goal.returns-in_default
returns-in_default c = λ ready. given_windows _
    (no_windows _ _ _ _ _ ready.value (sym c.asked_right.ensures ∙ c.if-not-asked_right.false)
    (sym (ap extent_span c.in_default.is) ∙ ready.extent_is)) c.new_1based.ensures refl refl

pub returns : goal.returns
returns c = λ ready. given_same
    (filled_over _ _ _ _ _ ready.value (sym c.asked_right.ensures ∙ c.if-not-asked_right.false) _ _
    (sym (ap extent_span c.in-Some.is) ∙ ready.extent_is) refl refl refl refl ready.few) (c.fill_windows.ensures
    (fill_ready _ _ _ _ _ ready.value (sym c.asked_right.ensures ∙ c.if-not-asked_right.false) _ _
    (sym (ap extent_span c.in-Some.is) ∙ ready.extent_is) refl refl refl refl ready.few))
