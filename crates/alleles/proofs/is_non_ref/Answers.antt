-- The bytes of `<NON_REF>`.
use Rattle.definitions.specs.Bytes.{text}
use Rattle.alleles.proofs.is_non_ref.Goals as goal

pub returns : goal.returns
unfolding text
returns c = c.same_bytes.ensures
