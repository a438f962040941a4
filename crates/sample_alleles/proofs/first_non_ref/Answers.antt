-- By whether one was found, and by whether this is one.
use borrow.Author.Tests.{eq-eqb, ne_eqb}
use mathlib.Core.Path.{◌∙◌, sym}
use borrow.Author.Rules.{rules}
use Rattle.sample_alleles.proofs.first_non_ref.Goals as goal

pub returns-then-nonref : goal.returns-then-nonref
returns-then-nonref c = rw (eq-eqb (c.args.found.0) 0 (sym (c.get.ensures) ∙ (c.if-get-eq0.true)), (c.if-nonref.true))

pub returns-else-nonref : goal.returns-else-nonref
returns-else-nonref c = rw (eq-eqb c.args.found.0 0 (sym c.get.ensures ∙ c.if-get-eq0.true), c.if-nonref.false)
    (sym c.get.ensures ∙ c.if-get-eq0.true)

pub returns-else-get-eq0 : goal.returns-else-get-eq0
returns-else-get-eq0 c = rw (ne_eqb (c.args.found.0) 0 (λ e. (c.if-get-eq0.false) ((c.get.ensures) ∙ e)))
