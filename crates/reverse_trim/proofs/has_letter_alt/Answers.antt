-- `any` tells whether a field spells a letter allele.
use borrow.Author.Rules.{rules}
use borrow.Author.Tests.{tests}
use lib.Dec.{eqb}
use mathlib.Core.Path.{◌∙◌, ap}
use Rattle.std.proofs.lemmas.Iterator.{cases_from_any}
use Rattle.std.proofs.lemmas.Iterator.Splits.{YieldsList-from_slice_split}
use Rattle.std.specs.List.{slice_split}
use Rattle.answers.proofs.Chains.{Fails, Passes, any_answer}
use Rattle.definitions.specs.Bytes.{comma}
use Rattle.definitions.specs.Lists.{any_of}
use Rattle.kv_text.proofs.Split.{fields_split}
use Rattle.reverse_trim.specs.LetterAlleles.{spells_letters}
use Rattle.reverse_trim.proofs.has_letter_alt.Goals as goal

pub returns : goal.returns
unfolding comma
returns c =
    any_answer spells_letters (slice_split (λ b. eqb b 44) c.args.alts.now) c.any.result
    (cases_from_any _ _ _ (Passes spells_letters) (Fails spells_letters) c.any.ensures.ran
    (YieldsList-from_slice_split _ (λ b. eqb b 44) c.args.alts.now c.split.ensures.rest c.split.ensures.done c.split.ensures.closure
    (λ x b q k. search (rules, tests)))
    (λ x q k. search (rules, tests)) (λ x q k. search (rules, tests)))
    ∙ ap (any_of spells_letters) (fields_split 44 c.args.alts.now)
