-- The outcome of the entry as two numbers.
use Rattle.wintabol.proofs.Exported.{exported, written_count}
use Rattle.laws.proofs.RefusalNumbers.{within_numbered}
use Rattle.wintabol_c.proofs.wintabol_log10_likelihoods_from_pl.Goals as goal

pub returns : goal.returns
returns c = record {
  answered = exported (within_numbered _ _) c.wintabol_log10_likelihoods_from_pl-outcome.ensures.answered c.give.ensures;
  near = rw (written_count c.wintabol_log10_likelihoods_from_pl-outcome.result c.give.ensures) at c.wintabol_log10_likelihoods_from_pl-outcome.ensures.near;
}
