-- By whether contig.kv asks for a contig.
use mathlib.Core.Path.{◌∙◌, ap, sym}
use native.Mathlib.Omega.{arith}
use Rattle.definitions.specs.Answers.{scratch_after}
use Rattle.definitions.specs.Checked.{accepted}
use Rattle.programs.proofs.Looks.{asked_looked, asked_refused}
use borrow.Author.Rules.{rules}
use Rattle.programs.proofs.looks_asked.Goals as goal

pub returns-in_default : goal.returns-in_default
unfolding scratch_after
returns-in_default c = let args = c.args in
    asked_refused args.of_cohort args.of_clip args.of_reference args.cohort.now args.clip.now args.reference.now
    c.requires c.in_default.ensures c.clear.ensures

pub returns : goal.returns
returns c = let args = c.args in
    asked_looked args.of_cohort args.of_clip args.of_reference args.cohort.now args.clip.now args.reference.now
    c.requires (c.in-Some.ensures ∙ ap accepted (sym c.part.ensures))
    c.text.ensures c.is_text-clipped.ensures c.text-2.ensures
    c.is_text-referenced.ensures c.text-3.ensures (omega arith) c.looks.ensures
