-- Row by row, as the laws of RecordChecks have them.
use mathlib.Core.Path.{◌∙◌, sym}
use native.Mathlib.Omega.{arith}
use Rattle.alleles.specs.Alleles.{AllelesFound}
use Rattle.site_groups.proofs.Refusals.{none_is}
use Rattle.called_reader.proofs.RecordChecks.{allele_faulty, counts_wrong, position_0, record_right, too_early}
use Rattle.called_reader.proofs.check_record.Goals as goal

pub returns-then-get-lt1 : goal.returns-then-get-lt1
returns-then-get-lt1 c = position_0 _ c.args.head c.args.previous c.args.fit (omega (arith, c.if-get-lt1.true, c.get.ensures))

pub returns-then-not-comes_after : goal.returns-then-not-comes_after
returns-then-not-comes_after c = too_early _ c.args.head c.args.previous c.args.fit (omega (arith, c.if-get-lt1.false, c.get.ensures))
    (rw c.part-contig.ensures at (sym c.comes_after.ensures ∙ c.if-not-comes_after.true))

pub returns-in_err-read : goal.returns-in_err-read
unfolding AllelesFound
returns-in_err-read c =
    rw (none_is _ _ _ _ c.from_residual.ensures.1 c.in_err-read.ensures.value c.in_err-read.ensures.ok_part)
    (allele_faulty _ c.args.head c.args.previous c.args.fit (omega (arith, c.if-get-lt1.false, c.get.ensures))
    (rw c.part-contig.ensures at (sym c.comes_after.ensures ∙ c.if-not-comes_after.false))
    (rw (c.part-reference.ensures, c.part-alts.ensures, c.in_err-read.ensures.ok_part) at c.check_alleles.ensures))

pub returns-then-not-fit : goal.returns-then-not-fit
unfolding AllelesFound
returns-then-not-fit c = let r = rw (c.part-reference.ensures, c.part-alts.ensures, c.in_ok-read.ensures.ok_part) at c.check_alleles.ensures in
    counts_wrong _ c.args.head c.args.previous c.args.fit (omega (arith, c.if-get-lt1.false, c.get.ensures))
    (rw c.part-contig.ensures at (sym c.comes_after.ensures ∙ c.if-not-comes_after.false))
    _ _ r (c.if-not-fit.true)

pub returns : goal.returns
unfolding AllelesFound
returns c = let r = rw (c.part-reference.ensures, c.part-alts.ensures, c.in_ok-read.ensures.ok_part) at c.check_alleles.ensures in
    record_right _ c.args.head c.args.previous c.args.fit (omega (arith, c.if-get-lt1.false, c.get.ensures))
    (rw c.part-contig.ensures at (sym c.comes_after.ensures ∙ c.if-not-comes_after.false))
    _ _ r (c.if-not-fit.false)
