-- A comma, and the ALT.
use native.Mathlib.Omega.{arith}
use Rattle.kv_write.proofs.Laying.{laid_append}
use Rattle.merged_alleles.proofs.Listing.{comma_short}
use Rattle.merged_alleles.proofs.put_alt.Goals as goal

pub put_bytes-requires : goal.put_bytes-requires
put_bytes-requires c = omega (arith, c.put_comma-from.ensures.next, comma_short c.args.n)

pub returns : goal.returns
returns c = laid_append (c.put_comma-from.ensures) (c.put_bytes.ensures)
