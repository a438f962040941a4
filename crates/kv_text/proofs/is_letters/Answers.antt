-- `all` tells whether every byte is a letter.
use Prim.Native.Nat.{ℕ}
use borrow.Author.Rules.{rules}
use borrow.Author.Tests.{tests}
use mathlib.Core.Bool.{Bool}
use mathlib.Core.Path.{◌∙◌, sym}
use Rattle.std.proofs.lemmas.Iterator.{YieldsList-from_slice, cases_from_all}
use Rattle.answers.proofs.Chains.{Fails, Passes, all_answer}
use Rattle.definitions.specs.Alleles.{capital, is_letter}
use Rattle.laws.proofs.Capitals.{are_letters}
use Rattle.kv_text.proofs.Tested.{eqb-above, eqb-below, passed_empty, passed_long, passed_start}
use Rattle.kv_text.proofs.is_letters.Goals as goal

-- a letter, in either case
abbrev is_either : ℕ → Bool
is_either b = is_letter (capital b)

pub returns-then-is_empty : goal.returns-then-is_empty
returns-then-is_empty c = passed_empty is_either c.args.most c.args.s.now (eqb-below (sym c.is_empty.ensures ∙ c.if-is_empty.true)) ∙ sym (are_letters _ _)

pub returns-then-most-s : goal.returns-then-most-s
returns-then-most-s c = passed_long is_either c.args.most c.args.s.now c.if-most-s.true ∙ sym (are_letters _ _)

pub returns : goal.returns
returns c =
    all_answer is_either c.args.s.now c.all.result
    (cases_from_all _ _ _ (Passes is_either) (Fails is_either) c.all.ensures.ran (YieldsList-from_slice c.args.s.now cc)
    (λ x q k. search (rules, tests)) (λ x q k. search (rules, tests)))
    ∙ sym (passed_start is_either c.args.most c.args.s.now (eqb-above (sym c.is_empty.ensures ∙ c.if-is_empty.false)) c.if-most-s.false) ∙ sym (are_letters _ _)
