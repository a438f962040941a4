-- One check after the other.
use borrow.Author.Rules.{rules}
use mathlib.Core.Path.{◌∙◌, sym}
use Rattle.allele_subsetting_pl.proofs.Fitting.{fitting, keep_list, most_alleles}
use Rattle.allele_subsetting_pl.proofs.Subset.{count_refused, subset_long, subset_refused, subset_written, with_none_above}
use Rattle.allele_subsetting_pl.proofs.subset_log10_genotype_likelihoods.Goals as goal

pub returns-then-not-allele_count_fits : goal.returns-then-not-allele_count_fits
returns-then-not-allele_count_fits c = let args = c.args in
    let both =
    with_none_above args.gl.now args.alleles args.keep.now
    (count_refused args.gl.now args.alleles args.keep.now (sym c.allele_count_fits.ensures ∙ c.if-not-allele_count_fits.true)) in
    record { answered = both.0; none_above = both.1 }

pub subset_fits-requires : goal.subset_fits-requires
subset_fits-requires c = most_alleles c.args.alleles (sym c.allele_count_fits.ensures ∙ c.if-not-allele_count_fits.false)

pub returns-then-not-subset_fits : goal.returns-then-not-subset_fits
returns-then-not-subset_fits c = let args = c.args in
    let both =
    with_none_above args.gl.now args.alleles args.keep.now
    (subset_refused args.gl.now args.alleles args.keep.now (sym c.subset_fits.ensures ∙ c.if-not-subset_fits.true)) in
    record { answered = both.0; none_above = both.1 }

pub num_genotype_likelihoods-count-requires : goal.num_genotype_likelihoods-count-requires
num_genotype_likelihoods-count-requires c = let args = c.args in
    (fitting args.gl.now args.alleles args.keep.now (sym c.subset_fits.ensures ∙ c.if-not-subset_fits.false)).few

pub returns-then-out-count : goal.returns-then-out-count
returns-then-out-count c = let args = c.args in
    let allowed = sym c.allele_count_fits.ensures ∙ c.if-not-allele_count_fits.false in
    let fits = sym c.subset_fits.ensures ∙ c.if-not-subset_fits.false in
    let both =
    with_none_above args.gl.now args.alleles args.keep.now
    (subset_long args.gl.now args.alleles args.keep.now allowed fits c.num_genotype_likelihoods-count.ensures c.if-out-count.true) in
    record { answered = both.0; none_above = both.1 }

pub subset_likelihoods-requires : goal.subset_likelihoods-requires
subset_likelihoods-requires c = let args = c.args in
    let allowed = sym c.allele_count_fits.ensures ∙ c.if-not-allele_count_fits.false in
    let fits = sym c.subset_fits.ensures ∙ c.if-not-subset_fits.false in
    keep_list args.gl.now args.alleles args.keep.now (fitting args.gl.now args.alleles args.keep.now fits)
    (most_alleles args.alleles allowed)

pub returns : goal.returns
returns c = let args = c.args in
    let allowed = sym c.allele_count_fits.ensures ∙ c.if-not-allele_count_fits.false in
    let fits = sym c.subset_fits.ensures ∙ c.if-not-subset_fits.false in
    let both =
    with_none_above args.gl.now args.alleles args.keep.now
    (subset_written args.gl.now args.alleles args.keep.now allowed fits c.num_genotype_likelihoods-count.ensures
    c.if-out-count.false c.subset_likelihoods.ensures) in
    record { answered = both.0; none_above = both.1 }
