-- The measure: how much of the ALTs is left.
use Rattle.std.proofs.Common.{length, ◌-◌}
use Rattle.sample_alleles.proofs.+put_alts.Given as goal

abbrev pub decreases-put_alts : goal.decreases-put_alts
decreases-put_alts l = length l.alternates.now - l.at
