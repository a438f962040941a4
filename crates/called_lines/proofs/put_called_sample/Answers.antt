-- AD and PL stand at the fronts of the arrays.
use borrow.Author.Rules.{rules}
use mathlib.Core.Path.{refl}
use Rattle.called_lines.proofs.Rows.{ad_front, pl_front, row_called, row_printable}
use Rattle.called_lines.proofs.put_called_sample.Goals as goal

pub slice_bounds-ad-end : goal.slice_bounds-ad-end
slice_bounds-ad-end c = let ad = rw c.get-row.ensures at c.ad_of-ad_count.ensures in
    (ad_front c.args.s.now c.args.rows.now c.args.sample.0 c.args.alleles c.requires.at_most
    c.requires.entries _ refl ad.count ad.values).within

pub slice_bounds-put_called_data-end : goal.slice_bounds-put_called_data-end
slice_bounds-put_called_data-end c = let ad = rw c.get-row.ensures at c.ad_of-ad_count.ensures in
    (ad_front c.args.s.now c.args.rows.now c.args.sample.0 c.args.alleles c.requires.at_most
    c.requires.entries _ refl ad.count ad.values).long

pub slice_bounds-pl-end : goal.slice_bounds-pl-end
slice_bounds-pl-end c = let pl = rw c.get-row.ensures at c.pl_of-pl_count.ensures in
    (pl_front c.args.s.now c.args.rows.now c.args.sample.0 c.args.alleles c.requires.at_most
    c.requires.entries _ refl pl.count pl.values).within

pub slice_bounds-put_called_data-end-2 : goal.slice_bounds-put_called_data-end-2
slice_bounds-put_called_data-end-2 c = let pl = rw c.get-row.ensures at c.pl_of-pl_count.ensures in
    (pl_front c.args.s.now c.args.rows.now c.args.sample.0 c.args.alleles c.requires.at_most
    c.requires.entries _ refl pl.count pl.values).long

pub put_called_data-requires : goal.put_called_data-requires
put_called_data-requires c = let ad = rw c.get-row.ensures at c.ad_of-ad_count.ensures in
    let pl = rw c.get-row.ensures at c.pl_of-pl_count.ensures in
    let a = ad_front c.args.s.now c.args.rows.now c.args.sample.0 c.args.alleles c.requires.at_most
    c.requires.entries _ refl ad.count ad.values in
    let p = pl_front c.args.s.now c.args.rows.now c.args.sample.0 c.args.alleles c.requires.at_most
    c.requires.entries _ refl pl.count pl.values in
    row_printable c.args.s.now c.args.rows.now c.args.sample.0 c.args.alleles c.args.dropped.0
    (rw c.get-row.ensures at c.dp_of.ensures) a.front p.front c.requires

pub returns : goal.returns
returns c = let ad = rw c.get-row.ensures at c.ad_of-ad_count.ensures in
    let pl = rw c.get-row.ensures at c.pl_of-pl_count.ensures in
    let a = ad_front c.args.s.now c.args.rows.now c.args.sample.0 c.args.alleles c.requires.at_most
    c.requires.entries _ refl ad.count ad.values in
    let p = pl_front c.args.s.now c.args.rows.now c.args.sample.0 c.args.alleles c.requires.at_most
    c.requires.entries _ refl pl.count pl.values in
    let dp = rw c.get-row.ensures at c.dp_of.ensures in
    rw (row_called c.args.s.now c.args.rows.now c.args.sample.0 c.args.alleles c.args.dropped.0 dp
    a.front p.front) at c.put_called_data.ensures
