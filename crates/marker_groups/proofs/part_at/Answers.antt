-- By the offsets in two columns.
use borrow.Author.Rules.{rules}
use Rattle.marker_groups.specs.Markers.{part_at}
use Rattle.marker_groups.proofs.part_at.Goals as goal

pub returns : goal.returns
unfolding part_at
returns c = rw (← c.column.ensures, ← c.column-2.ensures) (c.part.ensures)
