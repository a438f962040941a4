-- Row 1, then rows 2 to 8.
use Rattle.definitions.specs.Cohort.{site_lines}
use Rattle.laws.proofs.Checked.{then, then_refused}
use Rattle.site_groups.proofs.Refusals.{err_is, none_is}
use Rattle.site_groups.proofs.SiteLines.{list_stored}
use Rattle.site_groups.specs.SiteGroups.{SiteChecked, SiteRead, TextRead, site_group_of}
use Rattle.site_groups.proofs.read_site.Goals as goal

pub returns-in_err-lines : goal.returns-in_err-lines
unfolding SiteRead TextRead site_group_of
returns-in_err-lines c = let t = rw c.in_err-lines.ensures.ok_part at c.site_text.ensures in
    rw (none_is _ _ _ _ c.from_residual.ensures.1 c.in_err-lines.ensures.value c.in_err-lines.ensures.ok_part) (then_refused _ _ t.0, t.1)

pub returns-in_err-block : goal.returns-in_err-block
unfolding SiteRead TextRead SiteChecked site_group_of
returns-in_err-block c = let t = rw c.in_ok-lines.ensures.ok_part at c.site_text.ensures in
    let v = c.in_ok-lines.lines.values in
    rw (err_is _ _ c.from_residual-in_err-block.ensures.1) (
      then _ _ t.0.text (c.in_err-block.ensures t.0.values.ad_count t.0.values.pl_count),
      (list_stored c.args.s.now v.ad _ _ t.1.0, list_stored c.args.s.now v.pl _ _ t.1.1),
    )

pub returns : goal.returns
unfolding SiteRead TextRead SiteChecked site_group_of site_lines
returns c = let t = rw c.in_ok-lines.ensures.ok_part at c.site_text.ensures in
    let r = c.in_ok-block.ensures t.0.values.ad_count t.0.values.pl_count in
    (record { value = then _ _ t.0.text r.value; is_block_lem = r.is_block_lem; small = t.0.values.small; ad_count = t.0.values.ad_count; pl_count = t.0.values.pl_count; behind = t.0.values.behind; forward = t.0.values.forward; within = t.0.values.within }, t.1)
