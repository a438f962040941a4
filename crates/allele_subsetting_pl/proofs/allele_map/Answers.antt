-- The numbers from i on are left to store.
use Prim.Native.Nat.{◌<◌}
use borrow.Author.Rules.{rules}
use borrow.Author.Tests.{ltb-true}
use lib.ListN.{get_or}
use mathlib.Core.List.{map-id}
use mathlib.Core.Path.{refl}
use native.Mathlib.Omega.{arith}
use Rattle.genotype_values.proofs.Storing.{all_left, all_stored, next_stored}
use Rattle.laws.proofs.Every.{every_at, every_passed}
use Rattle.allele_subsetting_pl.proofs.allele_map.Goals as goal

-- each number is below 16, so it fits a byte
pub overflow_cast-number : goal.overflow_cast-number
overflow_cast-number c = let below : get_or c.args.keep.now c.loop-i.i 0 < 16 = ltb-true _ _
    (every_at c.loop-i.i 0 c.loop-i-test.true (every_passed _ c.args.keep.now c.requires.alleles)) in omega arith

pub loop-i-init : goal.loop-i-init
loop-i-init c = all_left (map-id c.args.keep.now)

pub loop-i-preserved : goal.loop-i-preserved
loop-i-preserved c = next_stored (λ a. a) c.args.keep.now 0 c.loop-i-test.true refl c.store.ensures c.loop-i.invariant

pub returns : goal.returns
returns c = all_stored (λ a. a) c.args.keep.now c.loop-i-test.false c.loop-i.invariant
