-- The number of samples, and whether it is allowed.
use mathlib.Core.Path.{◌≡◌}
use native.Mathlib.Omega.{arith}
use Rattle.std.proofs.lemmas.Result.{err_from_is_err_and}
use Rattle.answers.specs.declared.Refusal.TheVariants.{Spelling}
use Rattle.definitions.specs.Bytes.{text}
use Rattle.definitions.specs.Lines.{key_of}
use Rattle.definitions.specs.Numbers.{number}
use Rattle.kv_text.proofs.Lines.{line_within}
use Rattle.sample_names.proofs.Reading.{count_many, count_read, count_unread, count_zero}
use Rattle.sample_names.specs.Header.{CountRead}
use Rattle.sample_names.proofs.samples_line.Goals as goal

pub returns-in_err-count : goal.returns-in_err-count
unfolding key_of text CountRead
returns-in_err-count c =
    let p = err_from_is_err_and c.from_residual.result c.from_residual.ensures.1 in
    let none = c.in_err-count.ensures.ok_part in
    let given = rw none at c.in_err-count.ensures.value in
    let spelling : c.in_err-count.field-0.0 ≡ Spelling = cc given in
    rw (p.1, p.2, spelling) (count_unread _ (rw none at c.number_line.ensures))

pub returns-then-count-lt1 : goal.returns-then-count-lt1
unfolding key_of text CountRead
returns-then-count-lt1 c = count_zero _ _ _ (rw c.in_ok-count.ensures.ok_part at c.number_line.ensures) c.if-count-lt1.true

pub returns-then-count-gt64 : goal.returns-then-count-gt64
unfolding key_of text CountRead
returns-then-count-gt64 c =
    count_many _ _ _ (rw c.in_ok-count.ensures.ok_part at c.number_line.ensures) (omega (arith, c.if-count-gt64.true))

pub overflow_add-result : goal.overflow_add-result
overflow_add-result c =
    let h = line_within _ _ _ number _ _ (rw c.in_ok-count.ensures.ok_part at c.number_line.ensures) in omega arith

pub returns : goal.returns
unfolding key_of text CountRead
returns c = count_read _ _ _ (rw c.in_ok-count.ensures.ok_part at c.number_line.ensures) c.if-count-lt1.false c.if-count-gt64.false
