-- The values from a place on are left to store; a value is that of the pair at its place among the pairs of 16 alleles.
use Prim.Native.Nat.{◌-◌}
use borrow.Author.Rules.{rules}
use lib.ListN.{drop, length}
use mathlib.Core.List.{map}
use mathlib.Core.Path.{◌∙◌}
use native.Mathlib.Omega.{arith}
use Rattle.allele_subsetting_pl.proofs.Picked.{by_pairs, few_genotypes, picked_there, picked_at}
use Rattle.allele_subsetting_pl.specs.KeepLists.{absent_likelihood}
use Rattle.definitions.specs.Genotypes.{at_mapped_pairs, genotype_pairs}
use Rattle.genotype_values.proofs.Mapped.{no_pair}
use Rattle.genotype_values.proofs.Storing.{Unstored, all_left, all_stored, next_stored, unstored_length}
use Rattle.laws.proofs.Genotypes.{genotype_pairs_length}
use Rattle.allele_subsetting_pl.proofs.pick_likelihoods.Goals as goal

pub loop-place-init : goal.loop-place-init
loop-place-init c = all_left (by_pairs c.args.map.now c.args.gl.now)

pub overflow_step-place : goal.overflow_step-place
overflow_step-place c = omega (arith, few_genotypes (length c.args.map.now) c.requires, c.num_genotype_likelihoods-count.ensures)

pub loop-place-preserved : goal.loop-place-preserved
loop-place-preserved c = let keep = c.args.map.now in
    let gl = c.args.gl.now in
    let n = length keep in
    let there = picked_there (picked_at keep gl) n c.loop-place.place c.requires
    (omega (arith, c.num_genotype_likelihoods-count.ensures)) in
    next_stored (picked_at keep gl) (genotype_pairs n) no_pair (omega
    (arith, c.num_genotype_likelihoods-count.ensures, genotype_pairs_length n))
    (c.mapped_likelihood-x.ensures ∙ there) c.store.ensures c.loop-place.invariant

pub shape_of-picked : goal.shape_of-picked
shape_of-picked c = unstored_length c.loop-place.invariant

pub returns : goal.returns
returns c = let keep = c.args.map.now in
    let n = length keep in
    all_stored (picked_at keep c.args.gl.now) (genotype_pairs n)
    (omega (arith, c.num_genotype_likelihoods-count.ensures, genotype_pairs_length n)) c.loop-place.invariant
