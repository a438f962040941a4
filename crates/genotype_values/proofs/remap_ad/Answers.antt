-- The values from i on are left to store.
use Prim.Native.Nat.{◌-◌}
use borrow.Author.Rules.{rules}
use lib.ListN.{drop, get_or}
use mathlib.Core.List.{map}
use mathlib.Core.Path.{◌∙◌, ap, refl}
use Rattle.definitions.specs.Genotypes.{remapped_ad}
use Rattle.genotype_values.proofs.Storing.{Unstored, all_left, all_stored, next_stored, unstored_length}
use Rattle.genotype_values.proofs.remap_ad.Goals as goal

pub loop-i-init : goal.loop-i-init
unfolding remapped_ad
loop-i-init c = all_left refl

pub loop-i-preserved : goal.loop-i-preserved
loop-i-preserved c = let args = c.args in
    let value = c.value_or.ensures ∙ ap (λ a. get_or args.ad.now a 0) (c.get.ensures ∙ c.new-own.ensures) in
    next_stored (λ a. get_or args.ad.now a 0) args.map.now 0 c.loop-i-test.true value c.store.ensures c.loop-i.invariant

pub shape_of-out : goal.shape_of-out
shape_of-out c = unstored_length c.loop-i.invariant

pub returns : goal.returns
returns c = let args = c.args in
    all_stored (λ a. get_or args.ad.now a 0) args.map.now c.loop-i-test.false c.loop-i.invariant
