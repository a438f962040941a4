-- The name of the line, and whether it is among those before it: in which order does not matter.
use borrow.Author.Rules.{rules}
use mathlib.Core.Path.{◌∙◌, ◌≡◌, sym}
use native.Mathlib.Omega.{arith}
use Rattle.std.proofs.lemmas.Result.{err_from_is_err_and}
use Rattle.answers.specs.declared.Refusal.TheVariants.{Spelling}
use Rattle.definitions.specs.Bytes.{text}
use Rattle.definitions.specs.Lines.{key_of}
use Rattle.definitions.specs.Numbers.{name}
use Rattle.kv_text.proofs.Lines.{line_within}
use Rattle.sample_names.proofs.Names.{any_reverse}
use Rattle.sample_names.proofs.Reading.{sample_known, sample_new, sample_unread}
use Rattle.sample_names.specs.Header.{SampleRead}
use Rattle.sample_names.proofs.sample_at.Goals as goal

pub returns-in_err-name : goal.returns-in_err-name
unfolding key_of text SampleRead
returns-in_err-name c =
    let p = err_from_is_err_and c.from_residual.result c.from_residual.ensures.1 in
    let none = c.in_err-name.ensures.ok_part in
    let given = rw none at c.in_err-name.ensures.value in
    let spelling : c.in_err-name.field-0.0 ≡ Spelling = cc given in
    rw (p.1, p.2, spelling) (sample_unread _ _ _ (rw none at c.name_line.ensures).0)

pub slice_bounds-name_known-end : goal.slice_bounds-name_known-end
slice_bounds-name_known-end c =
    let l = rw c.in_ok-name.ensures.ok_part at c.name_line.ensures in
    let h = line_within _ _ _ name _ _ l.0 in search rules

pub slice_bounds-name_known-start : goal.slice_bounds-name_known-start
slice_bounds-name_known-start c = let l = rw c.in_ok-name.ensures.ok_part at c.name_line.ensures in let h = l.1 in search rules

pub slice_bounds-name_known-count : goal.slice_bounds-name_known-count
slice_bounds-name_known-count c = let l = rw c.in_ok-name.ensures.ok_part at c.name_line.ensures in omega (arith, l.1)

pub returns-then-name_known : goal.returns-then-name_known
unfolding key_of text SampleRead
returns-then-name_known c =
    let l = rw c.in_ok-name.ensures.ok_part at c.name_line.ensures in
    sample_known _ _ _ _ _ l.0 (any_reverse _ _ ∙ sym c.name_known.ensures ∙ c.if-name_known.true)

pub returns : goal.returns
unfolding key_of text SampleRead
returns c =
    let l = rw c.in_ok-name.ensures.ok_part at c.name_line.ensures in
    sample_new _ _ _ _ _ l.0 (any_reverse _ _ ∙ sym c.name_known.ensures ∙ c.if-name_known.false)
