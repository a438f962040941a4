-- `all` tells whether every value is in range.
use borrow.Author.Rules.{rules}
use borrow.Author.Tests.{tests}
use Rattle.std.proofs.lemmas.Iterator.{YieldsList-from_slice, cases_from_all}
use Rattle.answers.proofs.Chains.{Fails, Passes, all_answer}
use Rattle.definitions.specs.AlleleSubset.{in_range}
use Rattle.likelihoods.proofs.all_in_range.Goals as goal

pub returns : goal.returns
returns c =
    all_answer in_range c.args.values.now c.all.result
    (cases_from_all _ _ _ (Passes in_range) (Fails in_range) c.all.ensures.ran (YieldsList-from_slice c.args.values.now cc)
    (λ x q k. search (rules, tests)) (λ x q k. search (rules, tests)))
