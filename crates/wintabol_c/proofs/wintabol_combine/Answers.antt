-- The outcome of the entry as two numbers.
use Rattle.wintabol.proofs.Exported.{exported_list}
use Rattle.wintabol_c.proofs.wintabol_combine.Goals as goal

pub returns : goal.returns
returns c = exported_list c.wintabol_combine-outcome.ensures c.give.ensures
