-- By whether a file is too long.
use borrow.Author.Rules.{rules}
use mathlib.Core.Path.{◌∙◌, refl, sym}
use native.Mathlib.Omega.{arith}
use Rattle.definitions.specs.Answers.{scratch_after}
use Rattle.programs.proofs.Programs.{files_combined, files_refused}
use Rattle.programs.proofs.combine_files.Goals as goal

pub returns-then-any_too_long : goal.returns-then-any_too_long
unfolding scratch_after
returns-then-any_too_long c = let args = c.args in
    files_refused args.of_cohort args.of_clip args.of_reference args.cohort.now args.clip.now args.reference.now
    (sym c.any_too_long.ensures ∙ c.if-any_too_long.true) refl c.clear.ensures

pub returns : goal.returns
returns c = let args = c.args in
    files_combined args.of_cohort args.of_clip args.of_reference args.cohort.now args.clip.now args.reference.now
    (sym c.any_too_long.ensures ∙ c.if-any_too_long.false) c.text.ensures
    c.is_text.ensures c.text-2.ensures c.is_text-2.ensures c.text-3.ensures
    (omega arith) (omega arith) c.combine.ensures
