-- A text that is too long is refused with 2 before all.
use borrow.Author.Rules.{rules}
use borrow.Author.Tests.{not-false, not-true}
use mathlib.Core.Path.{◌∙◌, sym}
use Rattle.combine_gvcfs.proofs.Loading.{too_long_lem}
use Rattle.search_looks.proofs.Figure.{texts_refused}
use Rattle.search_looks.proofs.texts_looks.Goals as goal

pub returns-then-not-all_short : goal.returns-then-not-all_short
returns-then-not-all_short c = let long = sym c.all_short.ensures ∙ c.if-not-all_short.true in
    texts_refused _ _ _ (too_long_lem c.args.cohort.now c.args.clipped c.args.clip.now c.args.referenced c.args.reference.now long)

pub fitting_looks-requires : goal.fitting_looks-requires
fitting_looks-requires c = sym c.all_short.ensures ∙ c.if-not-all_short.false

pub returns : goal.returns
returns c = c.fitting_looks.ensures
