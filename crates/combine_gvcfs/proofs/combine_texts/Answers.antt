-- A text that is too long is refused with 2 before all.
use borrow.Author.Rules.{rules}
use borrow.Author.Tests.{not-false, not-true}
use mathlib.Core.Path.{◌∙◌, refl, sym}
use Rattle.combine_gvcfs.proofs.Loading.{texts_refused, too_long_lem}
use Rattle.combine_gvcfs.proofs.combine_texts.Goals as goal

pub returns-then-not-all_short : goal.returns-then-not-all_short
returns-then-not-all_short c = let long = sym c.all_short.ensures ∙ c.if-not-all_short.true in
    texts_refused (too_long_lem c.args.cohort.now c.args.clipped c.args.clip.now c.args.referenced c.args.reference.now long) refl

pub combine_fitting-requires : goal.combine_fitting-requires
combine_fitting-requires c = sym c.all_short.ensures ∙ c.if-not-all_short.false

pub returns : goal.returns
returns c = c.combine_fitting.ensures
