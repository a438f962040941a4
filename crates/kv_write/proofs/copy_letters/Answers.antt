-- The capitals of the bytes before i are copied.
use Prim.Native.Nat.{◌-◌}
use borrow.Author.Rules.{rules}
use lib.ListN.{length, length-map, length-set}
use mathlib.Core.List.{map}
use mathlib.Core.Path.{◌∙◌, ◌≡◌, refl, sym}
use Rattle.definitions.specs.Alleles.{capital}
use Rattle.laws.proofs.Capitals.{capital_at}
use Rattle.kv_write.proofs.Copying.{Copied, copied_all, copied_next}
use Rattle.kv_write.proofs.copy_letters.Goals as goal

pub loop-i-init : goal.loop-i-init
loop-i-init c = (c.requires, record { size = c.requires ∙ sym (length-map c.args.bytes.now capital); same = refl })

pub loop-i-preserved : goal.loop-i-preserved
loop-i-preserved c = (simp length-set c.loop-i.invariant.0, copied_next c.loop-i.invariant.1 (simp length-map c.loop-i-test.true) (c.capital-raised.ensures ∙ sym (capital_at c.args.bytes.now c.loop-i.i)))

pub shape_of-to : goal.shape_of-to
shape_of-to c = c.loop-i.invariant.0 ∙ sym c.requires

pub returns : goal.returns
returns c = copied_all c.loop-i.invariant.1 (simp length-map c.loop-i-test.false)
