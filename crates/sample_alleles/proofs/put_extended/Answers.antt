-- Index by index.
use Prim.Native.Nat.{◌-◌}
use borrow.Author.Rules.{rules}
use mathlib.Core.List.{◌++◌, map}
use native.Mathlib.Omega.{arith}
use Rattle.definitions.specs.Alleles.{capital, letters, same_allele}
use Rattle.laws.proofs.AllelesAsRead.{allele_as_read}
use Rattle.sample_alleles.proofs.Places.{Unput, all_put, all_unput, next_unput}
use Rattle.tables.specs.Tables.{name_at}
use Rattle.sample_alleles.proofs.put_extended.Goals as goal

pub loop-i-init : goal.loop-i-init
loop-i-init c = all_unput _ _ _ _

pub alt_at-requires : goal.alt_at-requires
alt_at-requires c = omega (arith, c.requires, c.loop-i-test.true)

pub overflow_add-i : goal.overflow_add-i
overflow_add-i c = omega (arith, c.loop-i-test.true, c.ranges.count)

pub overflow_step-i : goal.overflow_step-i
overflow_step-i c = omega (arith, c.loop-i-test.true, c.ranges.count)

pub loop-i-smaller : goal.loop-i-smaller
loop-i-smaller c = omega (arith, c.loop-i-test.true)

pub loop-i-preserved : goal.loop-i-preserved
loop-i-preserved c = next_unput _ _ _ _ (c.loop-i.invariant) (c.loop-i-test.true) (rw (c.alt_at.ensures) at (c.is_extended-same.ensures)) (c.put_index_if.ensures) (c.put_index_if.auto.map)

pub shape_of-map : goal.shape_of-map
shape_of-map c = c.loop-i.invariant.long

pub returns : goal.returns
returns c = all_put _ _ _ _ (c.loop-i.invariant) (c.loop-i-test.false)
