-- By whether the number is one of the table's.
use borrow.Author.Rules.{rules}
use mathlib.Core.List.{map}
use Rattle.definitions.specs.Alleles.{capital}
use Rattle.record_lines.proofs.OwnSamples.{data_of_no_row, data_of_row, site_printable}
use Rattle.record_lines.proofs.put_sample.Goals as goal

pub put_site_data-requires : goal.put_site_data-requires
put_site_data-requires c = let pre = c.requires in
    (site_printable _ _ _ _ _ pre.0 c.if-own-rows.true, pre.1)

pub returns-then-own-rows : goal.returns-then-own-rows
returns-then-own-rows c = rw
    (data_of_row c.args.s.now c.args.rows.now c.args.position.0 (map capital c.args.reference.now)
    c.args.alts.now c.if-own-rows.true) c.put_site_data.ensures

pub put_missing_data-requires : goal.put_missing_data-requires
put_missing_data-requires c = rw
    (data_of_no_row c.args.s.now c.args.rows.now c.args.position.0 (map capital c.args.reference.now)
    c.args.alts.now c.if-own-rows.false) at c.requires.0.fits

pub returns : goal.returns
returns c = rw
    (data_of_no_row c.args.s.now c.args.rows.now c.args.position.0 (map capital c.args.reference.now)
    c.args.alts.now c.if-own-rows.false) c.put_missing_data.ensures
