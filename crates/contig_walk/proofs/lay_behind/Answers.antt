-- Its lines are laid and counted.
use borrow.Author.Rules.{rules}
use Rattle.contig_walk.proofs.LaidRecords.{record_counted}
use Rattle.contig_walk.proofs.lay_behind.Goals as goal

pub returns : goal.returns
returns c = record { step = record_counted _ _ _ c.merge_result_to_record-end.ensures.next c.cap.ensures c.count_more.ensures; laid = c.merge_result_to_record-end.ensures.laid }
