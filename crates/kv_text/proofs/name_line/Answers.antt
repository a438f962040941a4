-- The value of the line, if it is a name.
use Prim.Native.Nat.{ℕ}
use borrow.Author.Rules.{rules}
use mathlib.Core.Bool.{true}
use mathlib.Core.List.{List}
use mathlib.Core.Option.{some}
use mathlib.Core.Path.{◌∙◌, ◌≡◌, sym}
use Rattle.definitions.specs.Lists.{is_there}
use Rattle.definitions.specs.Numbers.{name}
use Rattle.laws.proofs.Tests.{not_there, only_if_there}
use Rattle.kv_text.proofs.Lines.{line_within, read_absent, read_right, read_wrong}
use Rattle.kv_text.proofs.name_line.Goals as goal

-- a name reads as itself
is-name-itself : (s : List ℕ) → is_there (name s) ≡ true → name s ≡ some s
unfolding name
is-name-itself s h = only_if_there _ s h

pub returns-in_err-value : goal.returns-in_err-value
returns-in_err-value c = rw c.from_residual.ensures (read_absent _ _ _ name c.in_err-value.ensures.0, tt)

pub returns-then-not-is_name : goal.returns-then-not-is_name
returns-then-not-is_name c = (read_wrong _ _ _ name _ _ c.in_ok-value.ensures.0 (not_there _ (sym c.is_name.ensures ∙ c.if-not-is_name.true)), tt)

pub returns : goal.returns
returns c = (read_right _ _ _ name _ _ _ c.in_ok-value.ensures.0 (is-name-itself _ (sym c.is_name.ensures ∙ c.if-not-is_name.false)), c.in_ok-value.ensures.1)

pub slice_bounds-is_name-end : goal.slice_bounds-is_name-end
slice_bounds-is_name-end c = let h = line_within _ _ _ some _ _ c.in_ok-value.ensures.0 in search rules
