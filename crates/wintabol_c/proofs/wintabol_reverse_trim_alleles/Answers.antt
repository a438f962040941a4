-- The outcome of the entry as two numbers.
use Rattle.wintabol.proofs.Exported.{exported}
use Rattle.laws.proofs.RefusalNumbers.{trimmed_numbered}
use Rattle.wintabol_c.proofs.wintabol_reverse_trim_alleles.Goals as goal

pub returns : goal.returns
returns c = let args = c.args in
    exported (trimmed_numbered args.alleles.now _) c.wintabol_reverse_trim_alleles-outcome.ensures c.give.ensures
