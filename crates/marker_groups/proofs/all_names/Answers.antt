-- `all` tells whether every field is a name.
use Prim.Native.Nat.{ℕ}
use borrow.Author.Rules.{rules}
use borrow.Author.Tests.{tests}
use lib.Dec.{eqb}
use mathlib.Core.Bool.{Bool}
use mathlib.Core.List.{List}
use mathlib.Core.Path.{◌∙◌, ap}
use Rattle.std.proofs.lemmas.Iterator.{cases_from_all}
use Rattle.std.proofs.lemmas.Iterator.Splits.{YieldsList-from_slice_split}
use Rattle.std.specs.List.{slice_split}
use Rattle.answers.proofs.Chains.{Fails, Passes, all_answer}
use Rattle.definitions.specs.Bytes.{comma}
use Rattle.definitions.specs.Lists.{all_of, is_there}
use Rattle.definitions.specs.Numbers.{name}
use Rattle.kv_text.proofs.Split.{fields_split}
use Rattle.marker_groups.proofs.all_names.Goals as goal

pub returns : goal.returns
unfolding comma
returns c =
    let passes : List ℕ → Bool = λ f. is_there (name f) in
    all_answer passes (slice_split (λ b. eqb b 44) c.args.list.now) c.all.result
    (cases_from_all _ _ _ (Passes passes) (Fails passes) c.all.ensures.ran
    (YieldsList-from_slice_split _ (λ b. eqb b 44) c.args.list.now c.split.ensures.rest c.split.ensures.done c.split.ensures.closure
    (λ x b q k. search (rules, tests)))
    (λ x q k. search (rules, tests)) (λ x q k. search (rules, tests)))
    ∙ ap (all_of passes) (fields_split 44 c.args.list.now)
