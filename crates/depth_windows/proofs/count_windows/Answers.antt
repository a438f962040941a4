use mathlib.Core.Path.{◌∙◌}
use Rattle.depth_windows.proofs.Counting.{cleared_zeros, counted_as}
use Rattle.depth_windows.proofs.count_windows.Goals as goal

pub add_records-requires : goal.add_records-requires
add_records-requires c = rw (c.clear.ensures ∙ cleared_zeros c.args.counts.now) c.requires

pub returns : goal.returns
returns c = counted_as (c.clear.ensures ∙ cleared_zeros c.args.counts.now) c.add_records.ensures
