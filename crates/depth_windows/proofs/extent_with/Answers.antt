use borrow.Author.Tests.{not-false, not-true}
use mathlib.Core.Path.{◌∙◌}
use Rattle.depth_windows.proofs.Places.{on_is}
use borrow.Author.Rules.{rules}
use Rattle.depth_windows.proofs.extent_with.Reads as reads
use Rattle.depth_windows.proofs.extent_with.Lts as lts
use Rattle.depth_windows.proofs.widened.Reads as widened-reads
use Rattle.kv_text.proofs.same_bytes.Reads as same-bytes-reads
use Rattle.list_walk.proofs.record_end.Reads as record-end-reads
use Rattle.tables.proofs.part.Reads as part-reads
use Rattle.depth_windows.proofs.extent_with.Goals as goal

pub returns-then-not-same_bytes : goal.returns-then-not-same_bytes
returns-then-not-same_bytes c = rw (on_is _ (c.same_bytes.ensures) (c.part-on.ensures) (c.if-not-same_bytes.true))

pub returns : goal.returns
returns c = c.widened.ensures ∙ rw
    (on_is _ c.same_bytes.ensures c.part-on.ensures (c.if-not-same_bytes.false), c.record_end-last.ensures)
