-- The outcome of the entry as four numbers.
use Rattle.wintabol.proofs.Exported.{exported_alts, likelihood_count}
use Rattle.laws.proofs.RefusalNumbers.{unused_numbered}
use Rattle.wintabol_c.proofs.wintabol_subset_unused_alts.Goals as goal

pub returns : goal.returns
returns c = record {
  answered = exported_alts (unused_numbered _ _ _ _ _ _ _) c.wintabol_subset_unused_alts-outcome.ensures.answered c.give_alts.ensures;
  none_above = rw (likelihood_count c.wintabol_subset_unused_alts-outcome.result c.give_alts.ensures) at c.wintabol_subset_unused_alts-outcome.ensures.none_above;
}
