-- The values without the dropped allele stand at the fronts of the two arrays.
use borrow.Author.Rules.{rules}
use Rattle.called_lines.proofs.SampleValues.{few_ad, few_pl, fronts_printed}
use Rattle.genotype_values.proofs.Filled.{filled_front, filled_length, filled_within}
use Rattle.answers.specs.Options.{option_of}
use Rattle.called_lines.proofs.put_called_data.Goals as goal

pub slice_bounds-called_ad-end : goal.slice_bounds-called_ad-end
slice_bounds-called_ad-end c = filled_within (c.remap_ad-ad_count.ensures) (few_ad (c.args.alleles) (c.args.dropped.0) (c.requires.at_least)
    (c.requires.at_most) (c.requires.dropped) (c.args.ad.now) (c.requires.entries))

pub slice_bounds-put_called_values-end : goal.slice_bounds-put_called_values-end
slice_bounds-put_called_values-end c = filled_length (c.remap_ad-ad_count.ensures) (few_ad (c.args.alleles) (c.args.dropped.0) (c.requires.at_least)
    (c.requires.at_most) (c.requires.dropped) (c.args.ad.now) (c.requires.entries))

pub slice_bounds-called_pl-end : goal.slice_bounds-called_pl-end
slice_bounds-called_pl-end c = filled_within (c.remap_present_pl-pl_count.ensures) (few_pl (c.args.alleles) (c.args.dropped.0)
    (c.requires.at_least) (c.requires.at_most) (c.requires.dropped) (c.args.pl.now))

pub slice_bounds-put_called_values-end-2 : goal.slice_bounds-put_called_values-end-2
slice_bounds-put_called_values-end-2 c = filled_length (c.remap_present_pl-pl_count.ensures) (few_pl (c.args.alleles) (c.args.dropped.0)
    (c.requires.at_least) (c.requires.at_most) (c.requires.dropped) (c.args.pl.now))

pub put_called_values-requires : goal.put_called_values-requires
put_called_values-requires c = let args = c.args in
    let pre = c.requires in
    let ads = filled_front (c.remap_ad-ad_count.ensures) (few_ad args.alleles args.dropped.0 pre.at_least pre.at_most pre.dropped
    args.ad.now pre.entries) in
    let pls = filled_front (c.remap_present_pl-pl_count.ensures)
    (few_pl args.alleles args.dropped.0 pre.at_least pre.at_most pre.dropped args.pl.now) in
    rw (fronts_printed args.alleles args.dropped.0 pre.at_least pre.at_most pre.dropped (option_of args.dp) args.ad.now
    args.pl.now pre.entries ads pls) pre.fits

pub returns : goal.returns
returns c = let args = c.args in
    let pre = c.requires in
    let ads = filled_front (c.remap_ad-ad_count.ensures) (few_ad args.alleles args.dropped.0 pre.at_least pre.at_most pre.dropped
    args.ad.now pre.entries) in
    let pls = filled_front (c.remap_present_pl-pl_count.ensures)
    (few_pl args.alleles args.dropped.0 pre.at_least pre.at_most pre.dropped args.pl.now) in
    rw (fronts_printed args.alleles args.dropped.0 pre.at_least pre.at_most pre.dropped (option_of args.dp) args.ad.now
    args.pl.now pre.entries ads pls) at (c.put_called_values.ensures)
