-- The row is laid over the numbers from the first on.
use mathlib.Core.Path.{refl}
use Rattle.kv_write.proofs.Laying.{laid_whole}
use Rattle.tables.proofs.store_row.Goals as goal

pub returns : goal.returns
returns c = (laid_whole refl c.requires c.copy_over.ensures).laid
