-- By whether it is wanted.
use Rattle.sample_alleles.proofs.put_index_if.Goals as goal

pub returns-then-wanted : goal.returns-then-wanted
returns-then-wanted c = rw c.if-wanted.true (rw c.get-byte.ensures at c.store.ensures)
