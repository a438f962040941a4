-- The loop's invariant: some allele is shown if one from here on is.
use Prim.Native.Nat.{◌-◌, ℕ}
use borrow.Author.Rules.{rules}
use lib.ListN.{get_or}
use mathlib.Core.Bool.{Bool, ◌&&◌}
use mathlib.Core.List.{List, [], ◌∷◌}
use mathlib.Core.Option.{Option}
use mathlib.Core.Path.{◌∙◌, ◌≡◌, sym}
use native.Mathlib.Omega.{arith}
use Rattle.definitions.specs.Bytes.{comma, fields_of}
use Rattle.definitions.specs.Lists.{any_of, numbers_from}
use Rattle.definitions.specs.Numbers.{number_list}
use Rattle.laws.proofs.Capitals.{same_letters}
use Rattle.definitions.specs.SelectionSheet.{in_least_pair}
use Rattle.shown_alleles.proofs.Pairs.{any_end, any_here, any_next, any_start}
use Rattle.shown_alleles.specs.Shown.{shows_any}
use Rattle.shown_alleles.proofs.shows_allele.Goals as goal

pub loop-number-init : goal.loop-number-init
loop-number-init c = any_start _ _

pub is_shown-requires : goal.is_shown-requires
is_shown-requires c = c.requires

pub returns-then-is_shown : goal.returns-then-is_shown
unfolding shows_any
returns-then-is_shown c = any_here _ _ _ c.loop-number.invariant c.loop-number-test.true
    (rw c.allele_at-allele.ensures at (sym c.is_shown.ensures ∙ c.if-is_shown.true))

pub overflow_step-number : goal.overflow_step-number
overflow_step-number c = omega (arith, c.loop-number-test.true, c.ranges.alleles)

pub loop-number-smaller : goal.loop-number-smaller
loop-number-smaller c = omega (arith, c.loop-number-test.true)

pub loop-number-preserved : goal.loop-number-preserved
loop-number-preserved c = any_next _ _ _ c.loop-number.invariant c.loop-number-test.true
    (rw c.allele_at-allele.ensures at (sym c.is_shown.ensures ∙ c.if-is_shown.false))

pub returns : goal.returns
unfolding shows_any
returns c = any_end _ _ _ (c.loop-number.invariant) (c.loop-number-test.false)
