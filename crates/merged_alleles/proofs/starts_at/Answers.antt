-- Two numbers are compared.
use Rattle.merged_alleles.proofs.starts_at.Goals as goal

pub returns : goal.returns
returns c = cc
