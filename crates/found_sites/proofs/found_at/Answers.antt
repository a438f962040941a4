-- The answer of the call is the sample.
use borrow.Author.Rules.{rules}
use lib.ListN.{get_or}
use Rattle.found_sites.proofs.found_at.Goals as goal

pub returns : goal.returns
returns c = λ j. record { sample = record { 0 = c.new-sample.ensures j }; row = get_or c.args.sites.now c.args.i 0 }
