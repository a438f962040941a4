use borrow.Author.Tests.{not-false, not-true}
use mathlib.Core.Path.{◌∙◌}
use Rattle.depth_windows.proofs.Places.{deep_is, on_is}
use borrow.Author.Rules.{rules}
use Rattle.depth_windows.proofs.add_record.Reads as reads
use Rattle.depth_windows.proofs.add_record.Lts as lts
use Rattle.bio_ids.proofs.GenomeLoc.new.Reads as new-reads
use Rattle.bio_ids.proofs.SampleIndex.get.Reads as get-reads
use Rattle.depth_windows.proofs.is_deep.Reads as is-deep-reads
use Rattle.kv_text.proofs.same_bytes.Reads as same-bytes-reads
use Rattle.list_walk.proofs.record_end.Reads as record-end-reads
use Rattle.tables.proofs.dp_of.Reads as dp-of-reads
use Rattle.tables.proofs.part.Reads as part-reads
use Rattle.window_counts.proofs.add_stretch.Reads as add-stretch-reads
use Rattle.depth_windows.proofs.add_record.Goals as goal

pub returns-then-not-same_bytes : goal.returns-then-not-same_bytes
returns-then-not-same_bytes c = rw (on_is _ (c.same_bytes.ensures) (c.part-on.ensures) (c.if-not-same_bytes.true))

pub returns-then-not-is_deep : goal.returns-then-not-is_deep
returns-then-not-is_deep c = rw (
  on_is _ c.same_bytes.ensures c.part-on.ensures (c.if-not-same_bytes.false),
  deep_is _ _ c.is_deep.ensures
      c.dp_of-dp.ensures c.get.ensures (c.if-not-is_deep.true),
)

pub add_stretch-requires : goal.add_stretch-requires
add_stretch-requires c = rw (c.new.ensures.0, c.new.ensures.1, c.record_end-last.ensures)
    (c.requires
    (rw (
      on_is _ c.same_bytes.ensures c.part-on.ensures (c.if-not-same_bytes.false),
      deep_is _ _ c.is_deep.ensures
          c.dp_of-dp.ensures c.get.ensures (c.if-not-is_deep.false),
    )))

pub returns : goal.returns
returns c = c.add_stretch.ensures ∙ rw (
  c.new.ensures.0,
  c.new.ensures.1,
  c.record_end-last.ensures,
  on_is _ c.same_bytes.ensures
      c.part-on.ensures (c.if-not-same_bytes.false),
  deep_is _ _ c.is_deep.ensures c.dp_of-dp.ensures c.get.ensures
      (c.if-not-is_deep.false),
)
