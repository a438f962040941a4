-- The values over the record's alleles stand at the fronts of the two arrays.
use borrow.Author.Rules.{rules}
use Rattle.genotype_values.proofs.Filled.{few_ad, few_pl, filled_front, filled_length, filled_within}
use Rattle.genotype_values.proofs.Said.{fronts_printed}
use Rattle.answers.specs.Options.{option_of}
use Rattle.genotype_values.proofs.put_sample_data.Goals as goal

pub slice_bounds-record_ad-end : goal.slice_bounds-record_ad-end
slice_bounds-record_ad-end c = let args = c.args in
    filled_within c.remap_present_ad-ad_count.ensures (few_ad args.map.now args.ad.now c.requires.at_most)

pub slice_bounds-put_values-end : goal.slice_bounds-put_values-end
slice_bounds-put_values-end c = let args = c.args in
    filled_length c.remap_present_ad-ad_count.ensures (few_ad args.map.now args.ad.now c.requires.at_most)

pub slice_bounds-record_pl-end : goal.slice_bounds-record_pl-end
slice_bounds-record_pl-end c = let args = c.args in
    filled_within c.remap_present_pl-pl_count.ensures (few_pl args.map.now args.pl.now c.requires.at_most)

pub slice_bounds-put_values-end-2 : goal.slice_bounds-put_values-end-2
slice_bounds-put_values-end-2 c = let args = c.args in
    filled_length c.remap_present_pl-pl_count.ensures (few_pl args.map.now args.pl.now c.requires.at_most)

pub put_values-requires : goal.put_values-requires
put_values-requires c = let args = c.args in
    let pre = c.requires in
    let ads = filled_front c.remap_present_ad-ad_count.ensures (few_ad args.map.now args.ad.now pre.at_most) in
    let pls = filled_front c.remap_present_pl-pl_count.ensures (few_pl args.map.now args.pl.now pre.at_most) in
    rw (fronts_printed args.map.now pre.alleles (option_of args.gq) (option_of args.depths.dp) (option_of args.depths.mindp) args.ad.now args.pl.now pre.at_most ads pls)
    pre.fits

pub returns : goal.returns
returns c = let args = c.args in
    let pre = c.requires in
    let ads = filled_front c.remap_present_ad-ad_count.ensures (few_ad args.map.now args.ad.now pre.at_most) in
    let pls = filled_front c.remap_present_pl-pl_count.ensures (few_pl args.map.now args.pl.now pre.at_most) in
    rw (fronts_printed args.map.now pre.alleles (option_of args.gq) (option_of args.depths.dp) (option_of args.depths.mindp) args.ad.now args.pl.now pre.at_most ads pls) at
    c.put_values.ensures
