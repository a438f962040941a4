-- The row is laid out in an array and stored.
use Rattle.cohort.proofs.put_site.Goals as goal

pub returns : goal.returns
returns c = rw (
  ← c.flag.ensures,
  ← c.get.ensures,
  ← c.get-2.ensures,
  ← c.get-3.ensures,
  ← c.unwrap_or.ensures,
  ← c.unwrap_or-2.ensures,
  ← c.unwrap_or-3.ensures,
) c.store_row.ensures
