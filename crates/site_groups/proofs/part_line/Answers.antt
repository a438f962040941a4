-- A missing list is an empty part.
use Rattle.site_groups.proofs.SiteLines.{part_read}
use Rattle.site_groups.proofs.part_line.Goals as goal

pub returns : goal.returns
returns c = part_read _ _ _ _ _ _ _ c.in_ok-list.ensures _ c.unwrap_or-start.ensures
