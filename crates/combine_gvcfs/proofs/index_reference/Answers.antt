-- By whether there is a reference.
use borrow.Author.Rules.{rules}
use borrow.Author.Tests.{not-false, not-true}
use mathlib.Core.Path.{refl}
use Rattle.laws.proofs.Tests.{clash}
use Rattle.combine_gvcfs.proofs.index_reference.Goals as goal

pub returns-then-not-referenced : goal.returns-then-not-referenced
returns-then-not-referenced c = record { there = λ e. clash e (c.if-not-referenced.true); left_out = λ _. refl }

pub returns : goal.returns
returns c = record {
  there = λ _. c.index_segments.ensures;
  left_out = λ e.
      clash (c.if-not-referenced.false) e;
}
