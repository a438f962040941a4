-- A record that is not called leaves the list as it is; a called one is laid behind it.
use borrow.Author.Rules.{rules}
use borrow.Author.Tests.{not-false, not-true}
use mathlib.Core.Path.{◌∙◌, sym}
use Rattle.genotype_gvcfs.proofs.LaidRecord.{by_numbers, laid_none, laid_one, record_fits}
use Rattle.genotype_gvcfs.proofs.genotype_one_record.Goals as goal

pub returns-then-not-is_called : goal.returns-then-not-is_called
returns-then-not-is_called c = λ ready. laid_none ready (by_numbers ready ∙ sym c.is_called.ensures ∙ c.if-not-is_called.true)

pub put_called_record-end-requires : goal.put_called_record-end-requires
put_called_record-end-requires c = rw (c.part-contig.ensures, c.part-reference.ensures, c.part-alts.ensures) (record_fits c.requires)

pub returns : goal.returns
returns c = λ ready. rw (c.cap.ensures, c.count_more.ensures)
    (laid_one ready (by_numbers ready ∙ sym c.is_called.ensures ∙ c.if-not-is_called.false)
    (rw (c.part-contig.ensures, c.part-reference.ensures, c.part-alts.ensures) at c.put_called_record-end.ensures))
