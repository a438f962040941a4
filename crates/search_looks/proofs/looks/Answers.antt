-- The figure, and then scratch is cleared.
use borrow.Author.Rules.{rules}
use Rattle.definitions.specs.Answers.{scratch_after}
use Rattle.search_looks.proofs.Figure.{looks_answered}
use Rattle.search_looks.proofs.looks.Goals as goal

pub returns : goal.returns
unfolding scratch_after
returns c = looks_answered _ _ _ _ c.texts_looks-looked.result c.texts_looks-looked.ensures c.texts_looks-looked.auto.scratch c.clear.ensures
