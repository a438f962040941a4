-- Letter by letter from the end, up to the first that differs.
use Prim.Native.Nat.{◌-◌}
use borrow.Author.Rules.{rules}
use mathlib.Core.List.{map}
use mathlib.Core.Path.{◌∙◌, sym}
use native.Mathlib.Omega.{arith}
use Rattle.definitions.specs.Alleles.{capital}
use Rattle.reverse_trim.proofs.Endings.{EndingLeft, ending_most, ending_start, raised_differs, raised_more, raised_one_left, raised_whole}
use Rattle.reverse_trim.proofs.common_ending.Goals as goal

pub loop-n-init : goal.loop-n-init
loop-n-init c = ending_start _ _ _

pub returns-then-reference-n : goal.returns-then-reference-n
returns-then-reference-n c = raised_whole c.args.reference.now c.args.allele.now _ c.loop-n.invariant c.if-reference-n.true

pub returns-then-allele-n : goal.returns-then-allele-n
returns-then-allele-n c = raised_one_left c.args.reference.now c.args.allele.now _ c.loop-n.invariant c.if-allele-n.true

pub returns-then-raised-capital : goal.returns-then-raised-capital
returns-then-raised-capital c = raised_differs c.args.reference.now c.args.allele.now _ c.loop-n.invariant (omega arith) (omega arith) (λ e. c.if-raised-capital.true (c.capital-raised.ensures ∙ e ∙ sym c.capital.ensures))

pub loop-n-preserved : goal.loop-n-preserved
loop-n-preserved c = raised_more c.args.reference.now c.args.allele.now _ c.loop-n.invariant (omega arith) (omega arith) c.loop-n-test.true (sym c.capital-raised.ensures ∙ c.if-raised-capital.false ∙ c.capital.ensures)

pub returns : goal.returns
returns c = ending_most _ _ _ c.loop-n.invariant c.loop-n-test.false
