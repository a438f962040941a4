-- A dot, or few fields that are all names.
use borrow.Author.Rules.{rules}
use mathlib.Core.Bool.{Bool, false, true}
use mathlib.Core.Path.{◌∙◌, sym}
use native.Mathlib.Omega.{arith}
use Rattle.definitions.specs.Bytes.{comma, text}
use Rattle.marker_groups.proofs.Values.{there_dot, there_many, there_names}
use Rattle.marker_groups.proofs.is_after.Goals as goal

pub returns-then-same_bytes : goal.returns-then-same_bytes
unfolding text
returns-then-same_bytes c = sym (there_dot _ (sym (c.same_bytes.ensures) ∙ c.if-same_bytes.true))

pub returns-then-count_fields-gt4 : goal.returns-then-count_fields-gt4
unfolding text comma
returns-then-count_fields-gt4 c = sym (there_many _ (sym c.same_bytes.ensures ∙ c.if-same_bytes.false) (rw c.count_fields.ensures at c.if-count_fields-gt4.true))

pub returns : goal.returns
unfolding text comma
returns c = c.all_names.ensures ∙ sym
    (there_names _ (sym c.same_bytes.ensures ∙ c.if-same_bytes.false)
    (omega (arith, c.count_fields.ensures, c.if-count_fields-gt4.false)))
