-- By the order of the two contigs.
use Rattle.definitions.specs.Lists.{by_order}
use Rattle.list_reader.proofs.comes_after.Goals as goal

pub returns-in-Less : goal.returns-in-Less
unfolding by_order
returns-in-Less c = rw (c.in-Some.is, ← c.part-name.ensures, ← c.compare_bytes.ensures, c.in-Less.is)

pub returns-in-Equal : goal.returns-in-Equal
unfolding by_order
returns-in-Equal c = rw (
  c.in-Some.is,
  ← c.part-name.ensures,
  ← c.compare_bytes.ensures,
  c.in-Equal.is,
  c.get.ensures,
  c.get-in-Equal.ensures,
)

pub returns-in-Greater : goal.returns-in-Greater
unfolding by_order
returns-in-Greater c = rw (c.in-Some.is, ← c.part-name.ensures, ← c.compare_bytes.ensures, c.in-Greater.is)
