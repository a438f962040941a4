-- It is laid and counted.
use borrow.Author.Rules.{rules}
use Rattle.coalescing.proofs.StepLaws.{pending_counted}
use Rattle.coalescing.proofs.lay_pending.Goals as goal

pub returns : goal.returns
returns c = let laid = c.put_pending-next.ensures in
    record { step = pending_counted _ _ _ _ _ laid.next c.cap.ensures c.count_pending.ensures; laid = laid.laid }
