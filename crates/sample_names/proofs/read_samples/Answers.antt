-- The lines of the header; a refused header leaves a cleared table.
use mathlib.Core.Path.{◌∙◌, refl}
use Rattle.definitions.specs.Answers.{scratch_after}
use Rattle.sample_names.specs.Header.{Header, LinesRead}
use Rattle.tables.proofs.Cleared.{scratch_same}
use Rattle.sample_names.proofs.read_samples.Goals as goal

pub returns-then-names-lt128 : goal.returns-then-names-lt128
unfolding Header
returns-then-names-lt128 c = record { no_room = c.if-names-lt128.true; same = refl }

pub returns-in-Ok : goal.returns-in-Ok
unfolding Header LinesRead
returns-in-Ok c = c.in-Ok.ensures

pub returns-in-Err : goal.returns-in-Err
unfolding Header LinesRead scratch_after
returns-in-Err c = record {
  room = c.if-names-lt128.false;
  value = c.in-Err.ensures;
  cleared = c.clear.ensures ∙ scratch_same _ _ c.header_lines.auto.names;
}
