-- The answer of the entry as three numbers.
use Rattle.wintabol.proofs.Exported.{exported_look_up}
use Rattle.wintabol_c.proofs.wintabol_look_up.Goals as goal

pub returns : goal.returns
returns c = exported_look_up _ _ _ _ _ _ _ _ c.wintabol_look_up-answer.ensures c.give_lookup.ensures
