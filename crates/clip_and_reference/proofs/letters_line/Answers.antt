-- The value of the line, if it is letters.
use borrow.Author.Rules.{rules}
use mathlib.Core.Option.{some}
use mathlib.Core.Path.{◌∙◌, sym}
use Rattle.definitions.specs.Alleles.{letters_of}
use Rattle.definitions.specs.Numbers.{max_number}
use Rattle.laws.proofs.Capitals.{letters_raised}
use Rattle.laws.proofs.Tests.{not_there}
use Rattle.kv_text.proofs.Lines.{line_within, read_absent, read_right, read_wrong}
use Rattle.clip_and_reference.proofs.letters_line.Goals as goal

pub returns-in_err-value : goal.returns-in_err-value
returns-in_err-value c = rw c.from_residual.ensures (read_absent _ _ _ (letters_of max_number) c.in_err-value.ensures.0, tt)

pub slice_bounds-is_letters-end : goal.slice_bounds-is_letters-end
slice_bounds-is_letters-end c = let h = line_within _ _ _ some _ _ c.in_ok-value.ensures.0 in search rules

pub returns-then-is_letters : goal.returns-then-is_letters
unfolding max_number
returns-then-is_letters c =
    let l = c.in_ok-value.ensures in
    (read_right _ _ _ (letters_of max_number) _ _ _ l.0 (letters_raised _ _ (sym c.is_letters.ensures ∙ c.if-is_letters.true)), l.1)

pub returns : goal.returns
unfolding max_number
returns c = (
  read_wrong _ _ _ (letters_of max_number) _ _ c.in_ok-value.ensures.0 (not_there _ (sym c.is_letters.ensures ∙ c.if-is_letters.false)),
  tt,
)
