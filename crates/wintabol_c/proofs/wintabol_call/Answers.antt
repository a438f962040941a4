-- The outcome of the entry as two numbers.
use Rattle.wintabol.proofs.Exported.{exported}
use Rattle.laws.proofs.RefusalNumbers.{called_numbered}
use Rattle.wintabol_c.proofs.wintabol_call.Goals as goal

pub returns : goal.returns
returns c = let args = c.args in
    exported (called_numbered args.list.now _) c.wintabol_call-outcome.ensures c.give.ensures
