-- By whether the site starts there, and by the lengths.
use mathlib.Core.Path.{◌∙◌, sym}
use Rattle.merged_ref.proofs.Starting.{site_longer, site_not_longer, site_only, site_passed, start_elsewhere, start_there}
use Rattle.merged_ref.proofs.longer_ref.Goals as goal

pub returns-then-get : goal.returns-then-get
returns-then-get c = site_passed _ _ _ _ _ (start_elsewhere _ _ _ _ (λ e. c.if-get.true (c.get.ensures ∙ c.start_of.ensures ∙ e ∙ sym c.get-2.ensures)))

pub returns-in_default : goal.returns-in_default
returns-in_default c = rw c.in_default.is (site_only _ _ _ _ (start_there _ _ _ _ (sym c.start_of.ensures ∙ sym c.get.ensures ∙ c.if-get.false ∙ c.get-2.ensures)))

pub returns-then-longest-mine : goal.returns-then-longest-mine
returns-then-longest-mine c = let starts = start_there _ _ _ _ (sym c.start_of.ensures ∙ sym c.get.ensures ∙ c.if-get.false ∙ c.get-2.ensures) in
    let lengths = rw (c.reference_allele-longest.ensures, c.reference_allele-mine.ensures) at c.if-longest-mine.true in
    rw c.in-Some.is (site_longer _ _ _ _ starts _ lengths)

pub returns : goal.returns
returns c = let starts = start_there _ _ _ _ (sym c.start_of.ensures ∙ sym c.get.ensures ∙ c.if-get.false ∙ c.get-2.ensures) in
    let lengths = rw (c.reference_allele-longest.ensures, c.reference_allele-mine.ensures) at c.if-longest-mine.false in
    rw c.in-Some.is (site_not_longer _ _ _ _ starts _ lengths)
