-- The assigned alleles from one on are left to put in.
use Prim.Native.Nat.{◌+◌, ◌-◌}
use borrow.Author.Rules.{rules}
use mathlib.Core.Path.{sym}
use native.Mathlib.Omega.{arith}
use Rattle.allele_subsetting_pl.proofs.Assigned.{all_assigned, assigned_from, few_assigned, next_assigned, none_left}
use Rattle.allele_subsetting_pl.specs.KeepLists.{only_assigned}
use Rattle.definitions.specs.AlleleSubset.{assigned_alleles}
use Rattle.kv_write.proofs.Laying.{Left, done, left_length, recast, room, several, start}
use Rattle.allele_subsetting_pl.proofs.output_allele_keep_indices_from_assigned_gt.Given as goal

abbrev pub invariant-loop-number : goal.invariant-loop-number
invariant-loop-number l = Left l.initial.keep 0 (assigned_alleles l.alleles l.gt) l.keep l.count (assigned_from l.gt l.alleles l.number)

abbrev pub decreases-loop-number : goal.decreases-loop-number
decreases-loop-number l = l.alleles - l.number
