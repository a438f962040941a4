-- Where there is room for the names; if the cohort is not read both tables are cleared.
use borrow.Author.Tests.{le-ltb, lt-ltb}
use mathlib.Core.Bool.{false, true}
use mathlib.Core.Logic.{inl, inr}
use mathlib.Core.Path.{◌∙◌, ◌≡◌}
use native.Mathlib.Omega.{arith}
use Rattle.std.specs.Prelude as std
use Rattle.std.specs.Result.{is_err}
use Rattle.answers.specs.declared.LoadError.{LoadError}
use Rattle.answers.specs.declared.LoadError.TheVariants as load
use Rattle.cohort.specs.Cohort.{CohortAt, CohortFitting, cohort_answer}
use Rattle.cohort.specs.declared.CohortSize.{CohortSize}
use Rattle.tables.proofs.Cleared.{scratch_same}
use Rattle.cohort.proofs.read_cohort.Goals as goal

pub returns-then-names-lt128 : goal.returns-then-names-lt128
unfolding CohortAt cohort_answer
returns-then-names-lt128 c = record { answer = rw (lt-ltb _ 128 c.if-names-lt128.true); tables = record { no_room = inl (omega (arith, c.if-names-lt128.true)); names_cleared = c.clear_tables.ensures.1; rows_cleared = c.clear_tables.ensures.0 } }

pub returns-then-is_err : goal.returns-then-is_err
unfolding CohortAt CohortFitting cohort_answer
returns-then-is_err c = record {
  answer = rw (le-ltb _ 128 c.if-names-lt128.false) c.read_fitting-read.ensures.answer;
  tables = go c.read_fitting-read.result c.read_fitting-read.ensures.tables c.if-is_err.ensures.value;
}
  where
    go : (r : std.Result CohortSize LoadError)
        → CohortFitting c.args.s.now c.args.names.now c.read_fitting-read.new.names c.args.rows.now c.read_fitting-read.new.rows r
        → true ≡ is_err r
        → CohortAt c.args.s.now c.args.names.now c.clear_tables-then-is_err.new.names c.args.rows.now c.clear_tables-then-is_err.new.rows r
    go (std.Ok size) h e = absurd cc
    go (std.Err (load.Refused r)) h _ = record {
      room = omega (arith, c.if-names-lt128.false);
      value = h;
      names_cleared = c.clear_tables-then-is_err.ensures.1 ∙ scratch_same _ _ c.read_fitting-read.auto.names;
      rows_cleared = c.clear_tables-then-is_err.ensures.0 ∙ scratch_same _ _ c.read_fitting-read.auto.rows;
    }
    go (std.Err load.NoRoom) h _ = record {
      no_room = inr h;
      names_cleared = c.clear_tables-then-is_err.ensures.1 ∙ scratch_same _ _ c.read_fitting-read.auto.names;
      rows_cleared = c.clear_tables-then-is_err.ensures.0 ∙ scratch_same _ _ c.read_fitting-read.auto.rows;
    }

pub returns-else-is_err : goal.returns-else-is_err
unfolding CohortAt CohortFitting cohort_answer
returns-else-is_err c = record {
  answer = rw (le-ltb _ 128 c.if-names-lt128.false) c.read_fitting-read.ensures.answer;
  tables = go c.read_fitting-read.result c.read_fitting-read.ensures.tables c.if-is_err.ensures.value;
}
  where
    go : (r : std.Result CohortSize LoadError)
        → CohortFitting c.args.s.now c.args.names.now c.read_fitting-read.new.names c.args.rows.now c.read_fitting-read.new.rows r
        → false ≡ is_err r
        → CohortAt c.args.s.now c.args.names.now c.read_fitting-read.new.names c.args.rows.now c.read_fitting-read.new.rows r
    go (std.Ok size) h e = h
    go (std.Err x) h e = absurd cc
