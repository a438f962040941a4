-- `all` tells whether every byte passes.
use borrow.Author.Rules.{rules}
use borrow.Author.Tests.{tests}
use mathlib.Core.Path.{◌∙◌, sym}
use Rattle.std.proofs.lemmas.Iterator.{YieldsList-from_slice, cases_from_all}
use Rattle.answers.proofs.Chains.{Fails, Passes, all_answer}
use Rattle.definitions.specs.Numbers.{is_name_byte, name}
use Rattle.kv_text.proofs.Tested.{eqb-above, eqb-below, passed_empty, passed_long, passed_start}
use Rattle.kv_text.proofs.is_name.Goals as goal

pub returns-then-is_empty : goal.returns-then-is_empty
unfolding name
returns-then-is_empty c = passed_empty is_name_byte 32 c.args.s.now (eqb-below (sym c.is_empty.ensures ∙ c.if-is_empty.true))

pub returns-then-s-gt32 : goal.returns-then-s-gt32
unfolding name
returns-then-s-gt32 c = passed_long is_name_byte 32 c.args.s.now c.if-s-gt32.true

pub returns : goal.returns
unfolding name
returns c =
    all_answer is_name_byte c.args.s.now c.all.result
    (cases_from_all _ _ _ (Passes is_name_byte) (Fails is_name_byte) c.all.ensures.ran (YieldsList-from_slice c.args.s.now cc)
    (λ x q k. search (rules, tests)) (λ x q k. search (rules, tests)))
    ∙ sym (passed_start is_name_byte 32 c.args.s.now (eqb-above (sym c.is_empty.ensures ∙ c.if-is_empty.false)) c.if-s-gt32.false)
