-- The cohort is read into the tables, if they have room; then clip and reference.
use borrow.Author.Rules.{rules}
use native.Mathlib.Omega.{arith}
use Rattle.std.proofs.lemmas.Result.{err_from_is_err_and}
use Rattle.cohort.specs.Cohort.{CohortAt}
use Rattle.combine_gvcfs.proofs.Loading.{cohort_held, cohort_unread}
use Rattle.combine_gvcfs.specs.Combined.{ReadTo}
use Rattle.combine_gvcfs.proofs.read_texts.Goals as goal

pub returns-in_err-size : goal.returns-in_err-size
returns-in_err-size c = let p = err_from_is_err_and c.from_residual.result c.from_residual.ensures.1 in
    rw (p.1, p.2) (cohort_unread _ _ _ _ _ _ _ _ _ _ c.requires.0 c.requires.1.for_names c.in_err-size.ensures.tables)

pub read_clip_and_reference-requires : goal.read_clip_and_reference-requires
unfolding CohortAt
read_clip_and_reference-requires c = cohort_held _ _ _ _ _ c.requires.0 (omega (arith, c.requires.1.for_names, c.read_cohort.auto.names))
    c.read_cohort.auto.rows c.requires.1.whole c.in_ok-size.ensures.tables

pub returns : goal.returns
returns c = rw c.read_cohort.auto.rows at c.read_clip_and_reference.ensures
