-- AD, then PL.
use Rattle.cohort.proofs.put_numbers.Goals as goal

pub returns : goal.returns
returns c = rw (← c.store_numbers.ensures) (c.store_numbers-2.ensures)
