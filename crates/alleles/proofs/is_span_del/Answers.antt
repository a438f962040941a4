-- The byte of `*`.
use Rattle.definitions.specs.Bytes.{text}
use Rattle.alleles.proofs.is_span_del.Goals as goal

pub returns : goal.returns
unfolding text
returns c = c.same_bytes.ensures
