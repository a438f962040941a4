-- The map, AD and PL stand at the fronts of the arrays.
use borrow.Author.Rules.{rules}
use mathlib.Core.List.{map}
use mathlib.Core.Path.{refl}
use Rattle.definitions.specs.Alleles.{capital}
use Rattle.record_lines.proofs.SiteValues.{ad_front, map_front, pl_front, printable, values_said}
use Rattle.record_lines.proofs.put_site_data.Goals as goal

pub slice_bounds-put_sample_data-end : goal.slice_bounds-put_sample_data-end
slice_bounds-put_sample_data-end c = let m = map_front c.args.s.now c.args.rows.now c.args.site c.requires.0.sound _ c.args.position.0
    (map capital c.args.reference.now) c.args.alts.now refl c.requires.0.few
    c.indexes_of_relevant_alleles_for_gvcf-alleles.ensures.count
    c.indexes_of_relevant_alleles_for_gvcf-alleles.ensures.values in
    m.long

pub slice_bounds-ad-end : goal.slice_bounds-ad-end
slice_bounds-ad-end c = let a = ad_front c.args.s.now c.args.rows.now c.args.site c.requires.0.sound _ refl c.ad_of-ad_count.ensures.count
    c.ad_of-ad_count.ensures.values in
    a.within

pub slice_bounds-put_sample_data-end-2 : goal.slice_bounds-put_sample_data-end-2
slice_bounds-put_sample_data-end-2 c = let a = ad_front c.args.s.now c.args.rows.now c.args.site c.requires.0.sound _ refl c.ad_of-ad_count.ensures.count
    c.ad_of-ad_count.ensures.values in
    a.long

pub slice_bounds-pl-end : goal.slice_bounds-pl-end
slice_bounds-pl-end c = let p = pl_front c.args.s.now c.args.rows.now c.args.site c.requires.0.sound _ refl c.pl_of-pl_count.ensures.count
    c.pl_of-pl_count.ensures.values in
    p.within

pub slice_bounds-put_sample_data-end-3 : goal.slice_bounds-put_sample_data-end-3
slice_bounds-put_sample_data-end-3 c = let p = pl_front c.args.s.now c.args.rows.now c.args.site c.requires.0.sound _ refl c.pl_of-pl_count.ensures.count
    c.pl_of-pl_count.ensures.values in
    p.long

pub put_sample_data-requires : goal.put_sample_data-requires
put_sample_data-requires c = let m = map_front c.args.s.now c.args.rows.now c.args.site c.requires.0.sound _ c.args.position.0
    (map capital c.args.reference.now) c.args.alts.now refl c.requires.0.few
    c.indexes_of_relevant_alleles_for_gvcf-alleles.ensures.count
    c.indexes_of_relevant_alleles_for_gvcf-alleles.ensures.values in
    let a = ad_front c.args.s.now c.args.rows.now c.args.site c.requires.0.sound _ refl c.ad_of-ad_count.ensures.count
    c.ad_of-ad_count.ensures.values in
    let p = pl_front c.args.s.now c.args.rows.now c.args.site c.requires.0.sound _ refl c.pl_of-pl_count.ensures.count
    c.pl_of-pl_count.ensures.values in
    printable c.args.s.now c.args.rows.now c.args.site c.args.position.0
    (map capital c.args.reference.now) c.args.alts.now c.requires.0 c.gq_of.ensures c.dp_of.ensures
    c.min_dp_of.ensures m.front a.front p.front

pub returns : goal.returns
returns c = let m = map_front c.args.s.now c.args.rows.now c.args.site c.requires.0.sound _ c.args.position.0
    (map capital c.args.reference.now) c.args.alts.now refl c.requires.0.few
    c.indexes_of_relevant_alleles_for_gvcf-alleles.ensures.count
    c.indexes_of_relevant_alleles_for_gvcf-alleles.ensures.values in
    let a = ad_front c.args.s.now c.args.rows.now c.args.site c.requires.0.sound _ refl c.ad_of-ad_count.ensures.count
    c.ad_of-ad_count.ensures.values in
    let p = pl_front c.args.s.now c.args.rows.now c.args.site c.requires.0.sound _ refl c.pl_of-pl_count.ensures.count
    c.pl_of-pl_count.ensures.values in
    rw
    (values_said c.args.s.now c.args.rows.now c.args.site c.args.position.0
    (map capital c.args.reference.now) c.args.alts.now c.gq_of.ensures c.dp_of.ensures
    c.min_dp_of.ensures m.front a.front p.front) at c.put_sample_data.ensures
