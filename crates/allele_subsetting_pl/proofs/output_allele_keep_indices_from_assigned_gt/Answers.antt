-- The assigned alleles from one on are left to put in.
use Prim.Native.Nat.{◌+◌, ◌-◌}
use borrow.Author.Rules.{rules}
use mathlib.Core.Path.{sym}
use native.Mathlib.Omega.{arith}
use Rattle.allele_subsetting_pl.proofs.Assigned.{all_assigned, assigned_from, few_assigned, next_assigned, none_left}
use Rattle.allele_subsetting_pl.specs.KeepLists.{only_assigned}
use Rattle.definitions.specs.AlleleSubset.{assigned_alleles}
use Rattle.kv_write.proofs.Laying.{Left, done, left_length, recast, room, several, start}
use Rattle.allele_subsetting_pl.proofs.output_allele_keep_indices_from_assigned_gt.Goals as goal

pub loop-number-init : goal.loop-number-init
loop-number-init c = recast (sym (all_assigned c.args.gt.now c.args.alleles))
    (start (omega (arith, few_assigned c.args.gt.now c.args.alleles, c.requires)))

pub overflow_cast-number : goal.overflow_cast-number
overflow_cast-number c = omega (arith, c.requires)

pub keep_assigned-count-requires : goal.keep_assigned-count-requires
keep_assigned-count-requires c = rw c.new-allele.ensures (room (only_assigned c.is_assigned-assigned.result c.loop-number.number)
    (assigned_from c.args.gt.now c.args.alleles (c.loop-number.number + 1))
    (recast (next_assigned c.args.gt.now c.args.alleles c.loop-number.number _ c.loop-number-test.true
    (rw c.new-allele.ensures at c.is_assigned-assigned.ensures)) c.loop-number.invariant))

pub loop-number-preserved : goal.loop-number-preserved
loop-number-preserved c = several (rw c.new-allele.ensures at c.keep_assigned-count.ensures)
    (recast (next_assigned c.args.gt.now c.args.alleles c.loop-number.number _ c.loop-number-test.true
    (rw c.new-allele.ensures at c.is_assigned-assigned.ensures)) c.loop-number.invariant)

pub shape_of-keep : goal.shape_of-keep
shape_of-keep c = left_length (c.loop-number.invariant)

pub returns : goal.returns
returns c = done (recast (none_left c.args.gt.now c.args.alleles c.loop-number.number c.loop-number-test.false) c.loop-number.invariant)
