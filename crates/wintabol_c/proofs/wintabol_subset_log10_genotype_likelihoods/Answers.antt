-- The outcome of the entry as two numbers.
use Rattle.wintabol.proofs.Exported.{exported, written_count}
use Rattle.laws.proofs.RefusalNumbers.{subset_numbered}
use Rattle.wintabol_c.proofs.wintabol_subset_log10_genotype_likelihoods.Goals as goal

pub returns : goal.returns
returns c = record {
  answered = exported (subset_numbered _ _ _ _) c.wintabol_subset_log10_genotype_likelihoods-outcome.ensures.answered c.give.ensures;
  none_above = rw (written_count c.wintabol_subset_log10_genotype_likelihoods-outcome.result c.give.ensures) at c.wintabol_subset_log10_genotype_likelihoods-outcome.ensures.none_above;
}
