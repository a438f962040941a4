-- The loop's invariant: the sites from here on give the letter as all do.
use Rattle.merged_ref.proofs.Reached.{ReachedLeft}
use Rattle.merged_ref.proofs.reached_letter.Given as goal

abbrev pub invariant-loop-site : goal.invariant-loop-site
invariant-loop-site l = ReachedLeft l.s l.rows l.position.0 l.found l.site-index
