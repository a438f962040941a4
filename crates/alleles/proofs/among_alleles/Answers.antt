-- `any` tells whether a field has the same letters.
use Prim.Native.Nat.{ℕ}
use borrow.Author.Rules.{rules}
use borrow.Author.Tests.{tests}
use lib.Dec.{eqb}
use mathlib.Core.Bool.{Bool}
use mathlib.Core.List.{List}
use mathlib.Core.Path.{◌∙◌, ap}
use Rattle.std.proofs.lemmas.Iterator.{cases_from_any}
use Rattle.std.proofs.lemmas.Iterator.Splits.{YieldsList-from_slice_split}
use Rattle.std.specs.List.{slice_split}
use Rattle.answers.proofs.Chains.{Fails, Passes, any_answer}
use Rattle.definitions.specs.Bytes.{comma}
use Rattle.definitions.specs.Lists.{any_of}
use Rattle.laws.proofs.Capitals.{same_letters}
use Rattle.kv_text.proofs.Split.{fields_split}
use Rattle.alleles.proofs.among_alleles.Goals as goal

pub returns : goal.returns
unfolding comma
returns c =
    let passes : List ℕ → Bool = same_letters c.args.allele.now in
    any_answer passes (slice_split (λ b. eqb b 44) c.args.list.now) c.any.result
    (cases_from_any _ _ _ (Passes passes) (Fails passes) c.any.ensures.ran
    (YieldsList-from_slice_split _ (λ b. eqb b 44) c.args.list.now c.split.ensures.rest c.split.ensures.done c.split.ensures.closure
    (λ x b q k. search (rules, tests)))
    (λ x q k. search (rules, tests)) (λ x q k. search (rules, tests)))
    ∙ ap (any_of passes) (fields_split 44 c.args.list.now)
