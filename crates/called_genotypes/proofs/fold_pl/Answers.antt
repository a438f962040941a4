-- The values from a place on are left to store; a value is that of the pair at its place among the pairs of 16 alleles.
use Prim.Native.Nat.{◌-◌}
use borrow.Author.Rules.{rules}
use lib.ListN.{drop}
use mathlib.Core.List.{map}
use mathlib.Core.Path.{◌∙◌, refl, sym}
use native.Mathlib.Omega.{arith}
use Rattle.called_genotypes.proofs.Folded.{folded_length, value_there}
use Rattle.called_genotypes.specs.Values.{folded_pl, retained_pl_at}
use Rattle.definitions.specs.Genotypes.{genotype_pairs}
use Rattle.genotype_values.proofs.Mapped.{count_is, no_pair, product_bound}
use Rattle.genotype_values.proofs.Storing.{Unstored, all_left, all_stored, next_stored, unstored_length}
use Rattle.laws.proofs.Genotypes.{genotype_pairs_length}
use Rattle.called_genotypes.proofs.fold_pl.Goals as goal

pub overflow_mul-count : goal.overflow_mul-count
overflow_mul-count c = omega (arith, product_bound (c.args.retained) (c.requires))

pub loop-place-init : goal.loop-place-init
unfolding folded_pl
loop-place-init c = all_left refl

pub overflow_step-place : goal.overflow_step-place
overflow_step-place c = omega (arith, product_bound (c.args.retained) (c.requires))

pub loop-place-preserved : goal.loop-place-preserved
loop-place-preserved c = let n = c.args.retained in
    let f = retained_pl_at (c.args.pl.now) (c.args.dropped.0) in
    let there = value_there f n (c.loop-place.place) (c.requires) (omega (arith, count_is n)) in
    next_stored f (genotype_pairs n) no_pair (omega (arith, count_is n, genotype_pairs_length n)) ((c.folded_pl_at-x.ensures) ∙ there) (c.store.ensures) (c.loop-place.invariant)

pub shape_of-out : goal.shape_of-out
shape_of-out c = unstored_length (c.loop-place.invariant)

pub returns : goal.returns
returns c = let n = c.args.retained in
    record {
      laid = all_stored (retained_pl_at (c.args.pl.now) (c.args.dropped.0)) (genotype_pairs n) (omega (arith, count_is n, genotype_pairs_length n)) (c.loop-place.invariant);
      count = count_is n ∙ sym (folded_length n (c.args.dropped.0) (c.args.pl.now));
    }
