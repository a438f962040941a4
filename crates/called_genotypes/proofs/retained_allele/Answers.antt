-- Below the dropped allele, or past it.
use borrow.Author.Rules.{rules}
use borrow.Author.Tests.{le-ltb, lt-ltb}
use native.Mathlib.Omega.{arith}
use Rattle.called_genotypes.specs.Values.{retained_allele}
use Rattle.called_genotypes.proofs.retained_allele.Goals as goal

pub returns-then-a-get : goal.returns-then-a-get
unfolding retained_allele
returns-then-a-get c = rw (lt-ltb (c.args.allele.0) (c.args.dropped.0) (omega (arith, c.get-a.ensures, c.get.ensures, c.if-a-get.true)))

pub returns : goal.returns
unfolding retained_allele
returns c = rw (le-ltb (c.args.allele.0) (c.args.dropped.0) (omega (arith, c.get-a.ensures, c.get.ensures, c.if-a-get.false))) (omega (arith, c.new.ensures, c.get-a.ensures))
