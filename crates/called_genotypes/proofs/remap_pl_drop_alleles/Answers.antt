-- The values stand at the front of the array.
use Prim.Native.Nat.{◌-◌}
use borrow.Author.Rules.{rules}
use native.Mathlib.Omega.{arith}
use Rattle.called_genotypes.proofs.Folded.{dropped_pl, folded_few, not_there, too_few, too_many}
use Rattle.genotype_values.proofs.Filled.{filled_front, filled_length, filled_within}
use Rattle.called_genotypes.proofs.remap_pl_drop_alleles.Goals as goal

pub returns-then-alleles-lt2 : goal.returns-then-alleles-lt2
returns-then-alleles-lt2 c = too_few (c.if-alleles-lt2.true)

pub returns-then-alleles-gt16 : goal.returns-then-alleles-gt16
returns-then-alleles-gt16 c = too_many (c.if-alleles-lt2.false) (c.if-alleles-gt16.true)

pub returns-then-alleles-get : goal.returns-then-alleles-get
returns-then-alleles-get c = not_there (c.if-alleles-lt2.false) (c.if-alleles-gt16.false) (omega (arith, c.get.ensures, c.if-alleles-get.true))

pub slice_bounds-folded-end : goal.slice_bounds-folded-end
slice_bounds-folded-end c = filled_within (c.fold_pl-count.ensures) (folded_few (c.args.alleles - 1) (c.args.dropped.0) (c.args.pl.now) (omega (arith, c.if-alleles-gt16.false)))

pub slice_bounds-normalize_pl-end : goal.slice_bounds-normalize_pl-end
slice_bounds-normalize_pl-end c = filled_length (c.fold_pl-count.ensures) (folded_few (c.args.alleles - 1) (c.args.dropped.0) (c.args.pl.now) (omega (arith, c.if-alleles-gt16.false)))

pub returns : goal.returns
returns c =
    let few = folded_few (c.args.alleles - 1) c.args.dropped.0 c.args.pl.now (omega (arith, c.if-alleles-gt16.false)) in
    dropped_pl c.if-alleles-lt2.false c.if-alleles-gt16.false (omega (arith, c.get.ensures, c.if-alleles-get.false)) (filled_front c.fold_pl-count.ensures few)
    c.fold_pl-count.ensures.count c.normalize_pl.ensures
