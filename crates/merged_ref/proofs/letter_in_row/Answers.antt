-- The row's numbers are those of the segment.
use mathlib.Core.Path.{◌∙◌}
use Rattle.indexed_groups.specs.Indexed.{placed_at}
use Rattle.tables.specs.Tables.{segment_at}
use Rattle.merged_ref.proofs.letter_in_row.Goals as goal

pub returns : goal.returns
unfolding placed_at segment_at
returns c = let is_first = c.new_1based.ensures ∙ c.segment_column-first.ensures in
    rw (
      ← c.segment_column.ensures,
      ← c.segment_column-2.ensures,
      ← is_first,
      ← c.segment_column-3.ensures,
      ← c.segment_column-4.ensures,
    ) c.letter_in.ensures
