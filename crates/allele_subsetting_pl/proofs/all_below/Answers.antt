-- What `all` found, number by number.
use borrow.Author.Rules.{rules}
use borrow.Author.Tests.{tests}
use lib.Dec.{ltb}
use mathlib.Core.Bool.{false, true}
use mathlib.Core.Path.{◌≡◌}
use Rattle.std.proofs.lemmas.Iterator.{YieldsList-from_slice, cases_from_all}
use Rattle.answers.proofs.Chains.{all_answer}
use Rattle.allele_subsetting_pl.proofs.all_below.Goals as goal

pub returns : goal.returns
returns c = let bound = c.args.bound in
    all_answer (λ a. ltb a bound) c.args.numbers.now _
    (cases_from_all _ _ _ (λ a. ltb a bound ≡ true) (λ a. ltb a bound ≡ false) c.all.ensures.ran (YieldsList-from_slice c.args.numbers.now cc)
    (λ x q k. search (rules, tests)) (λ x q k. search (rules, tests)))
