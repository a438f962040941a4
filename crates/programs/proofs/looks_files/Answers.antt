-- By whether a file is too long.
use mathlib.Core.Path.{◌∙◌, sym}
use Rattle.definitions.specs.Answers.{scratch_after}
use Rattle.programs.proofs.Looks.{asked_long, files_looked, texts_refused}
use borrow.Author.Rules.{rules}
use Rattle.programs.proofs.looks_files.Goals as goal

pub returns-then-any_too_long : goal.returns-then-any_too_long
unfolding scratch_after
returns-then-any_too_long c = let args = c.args in
    texts_refused args.of_cohort args.of_clip args.of_reference args.cohort.now args.clip.now args.reference.now _
    (sym c.any_too_long.ensures ∙ c.if-any_too_long.true) c.clear.ensures

pub returns-then-is_too_long : goal.returns-then-is_too_long
unfolding scratch_after
returns-then-is_too_long c = let args = c.args in
    asked_long args.of_cohort args.of_clip args.of_reference args.cohort.now args.clip.now args.reference.now
    (sym c.any_too_long.ensures ∙ c.if-any_too_long.false) args.of_contig args.contig.now
    (sym c.is_too_long.ensures ∙ c.if-is_too_long.true) c.clear-then-is_too_long.ensures

pub looks_asked-requires : goal.looks_asked-requires
looks_asked-requires c = sym c.any_too_long.ensures ∙ c.if-any_too_long.false

pub returns : goal.returns
returns c = let args = c.args in
    files_looked _ _ _ args.of_contig args.contig.now (sym c.is_too_long.ensures ∙ c.if-is_too_long.false)
    c.text.ensures c.looks_asked.ensures
