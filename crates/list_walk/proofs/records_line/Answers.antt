-- The line reads, or the names are cleared.
use Rattle.definitions.specs.Answers.{scratch_after}
use Rattle.definitions.specs.Bytes.{text}
use Rattle.definitions.specs.Lines.{key_of}
use Rattle.kv_text.specs.Lines.{LineReads}
use Rattle.list_walk.specs.Walk.{FigureRead}
use mathlib.Core.Path.{refl}
use native.Mathlib.Omega.{arith}
use Rattle.list_walk.proofs.records_line.Goals as goal

pub returns-in_default : goal.returns-in_default
unfolding FigureRead LineReads key_of text scratch_after
returns-in_default c = record {
  row_is = refl;
  value = rw c.in_default.is at c.number_line.ensures;
  cleared = c.clear.ensures;
}

pub overflow_add-next : goal.overflow_add-next
unfolding LineReads
overflow_add-next c = let l = rw c.in-Some.is at c.number_line.ensures in omega (arith, l.within, c.well_formed)

pub returns : goal.returns
unfolding FigureRead LineReads key_of text
returns c = record {
  end = _;
  line = rw c.in-Some.is at c.number_line.ensures;
  samples_are = refl;
  next_is = refl;
  same = refl;
}
