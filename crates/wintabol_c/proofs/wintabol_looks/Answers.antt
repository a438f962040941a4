-- The answer of the entry as two numbers.
use Rattle.wintabol.proofs.Exported.{exported_looks}
use Rattle.wintabol_c.proofs.wintabol_looks.Goals as goal

pub returns : goal.returns
returns c = exported_looks {r = c.wintabol_looks-looked.result} c.wintabol_looks-looked.ensures c.give.ensures
