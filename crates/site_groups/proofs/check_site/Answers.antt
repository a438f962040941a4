-- Row by row, as the laws of SiteChecks have them.
use borrow.Author.Tests.{not-false, not-true}
use mathlib.Core.Path.{◌∙◌, sym}
use native.Mathlib.Omega.{arith}
use Rattle.alleles.specs.Alleles.{AllelesFound}
use Rattle.site_groups.proofs.Refusals.{none_is}
use Rattle.site_groups.proofs.SiteChecks.{allele_faulty, counts_wrong, end_before, end_wrong, no_non_ref, no_sample, position_0, site_right, too_many}
use Rattle.site_groups.proofs.check_site.Goals as goal

pub returns-then-before-ge4096 : goal.returns-then-before-ge4096
returns-then-before-ge4096 c = too_many _ c.args.place c.args.alleles c.args.values c.args.samples c.args.before c.if-before-ge4096.true

pub returns-then-samples-get : goal.returns-then-samples-get
returns-then-samples-get c = no_sample _ c.args.place c.args.alleles c.args.values c.args.samples c.args.before
    (omega (arith, c.if-before-ge4096.false)) (omega (arith, c.if-samples-get.true, c.get.ensures))

pub returns-then-start-lt1 : goal.returns-then-start-lt1
returns-then-start-lt1 c = position_0 _ c.args.place c.args.alleles c.args.values c.args.samples c.args.before
    (omega (arith, c.if-before-ge4096.false)) (omega (arith, c.if-samples-get.false, c.get.ensures))
    (omega (arith, c.if-start-lt1.true, c.get-start.ensures))

pub returns-then-end-start : goal.returns-then-end-start
returns-then-end-start c = end_before _ c.args.place c.args.alleles c.args.values c.args.samples c.args.before
    (omega (arith, c.if-before-ge4096.false)) (omega (arith, c.if-samples-get.false, c.get.ensures))
    (omega (arith, c.if-start-lt1.false, c.get-start.ensures)) (omega (arith, c.if-end-start.true, c.get-start.ensures, c.get-end.ensures))

pub returns-in_err-read : goal.returns-in_err-read
unfolding AllelesFound
returns-in_err-read c =
    rw (none_is _ _ _ _ c.from_residual.ensures.1 c.in_err-read.ensures.value c.in_err-read.ensures.ok_part)
    (allele_faulty _ c.args.place c.args.alleles c.args.values c.args.samples c.args.before
    (omega (arith, c.if-before-ge4096.false)) (omega (arith, c.if-samples-get.false, c.get.ensures))
    (omega (arith, c.if-start-lt1.false, c.get-start.ensures))
    (omega (arith, c.if-end-start.false, c.get-start.ensures, c.get-end.ensures))
    (rw (c.part-reference.ensures, c.part-alts.ensures, c.in_err-read.ensures.ok_part) at c.check_alleles.ensures))

pub returns-then-not-read : goal.returns-then-not-read
unfolding AllelesFound
returns-then-not-read c = let r = rw (c.part-reference.ensures, c.part-alts.ensures, c.in_ok-read.ensures.ok_part) at c.check_alleles.ensures in
    no_non_ref _ c.args.place c.args.alleles c.args.values c.args.samples c.args.before
    (omega (arith, c.if-before-ge4096.false)) (omega (arith, c.if-samples-get.false, c.get.ensures))
    (omega (arith, c.if-start-lt1.false, c.get-start.ensures))
    (omega (arith, c.if-end-start.false, c.get-start.ensures, c.get-end.ensures)) _ _ r (not-true _ c.if-not-read.true)

pub returns-then-not-end_fits : goal.returns-then-not-end_fits
unfolding AllelesFound
returns-then-not-end_fits c = let r = rw (c.part-reference.ensures, c.part-alts.ensures, c.in_ok-read.ensures.ok_part) at c.check_alleles.ensures in
    end_wrong _ c.args.place c.args.alleles c.args.values c.args.samples c.args.before
    (omega (arith, c.if-before-ge4096.false)) (omega (arith, c.if-samples-get.false, c.get.ensures))
    (omega (arith, c.if-start-lt1.false, c.get-start.ensures))
    (omega (arith, c.if-end-start.false, c.get-start.ensures, c.get-end.ensures)) _ _ r (not-false _ c.if-not-read.false)
    (rw (c.part-reference.ensures, c.get-start.ensures, c.get-end.ensures) at (sym c.end_fits.ensures ∙ c.if-not-end_fits.true))

pub overflow_cast-n : goal.overflow_cast-n
unfolding AllelesFound
overflow_cast-n c = let r = rw (c.part-reference.ensures, c.part-alts.ensures, c.in_ok-read.ensures.ok_part) at c.check_alleles.ensures in
    let h = r.few in omega arith

pub returns-then-not-counts_fit : goal.returns-then-not-counts_fit
unfolding AllelesFound
returns-then-not-counts_fit c = let r = rw (c.part-reference.ensures, c.part-alts.ensures, c.in_ok-read.ensures.ok_part) at c.check_alleles.ensures in
    counts_wrong _ c.args.place c.args.alleles c.args.values c.args.samples c.args.before
    (omega (arith, c.if-before-ge4096.false)) (omega (arith, c.if-samples-get.false, c.get.ensures))
    (omega (arith, c.if-start-lt1.false, c.get-start.ensures))
    (omega (arith, c.if-end-start.false, c.get-start.ensures, c.get-end.ensures)) _ _ r (not-false _ c.if-not-read.false)
    (rw (c.part-reference.ensures, c.get-start.ensures, c.get-end.ensures) at
    (sym c.end_fits.ensures ∙ c.if-not-end_fits.false)) (sym c.counts_fit.ensures ∙ c.if-not-counts_fit.true)

pub returns : goal.returns
unfolding AllelesFound
returns c = let r = rw (c.part-reference.ensures, c.part-alts.ensures, c.in_ok-read.ensures.ok_part) at c.check_alleles.ensures in
    site_right _ c.args.place c.args.alleles c.args.values c.args.samples c.args.before
    (omega (arith, c.if-before-ge4096.false)) (omega (arith, c.if-samples-get.false, c.get.ensures))
    (omega (arith, c.if-start-lt1.false, c.get-start.ensures))
    (omega (arith, c.if-end-start.false, c.get-start.ensures, c.get-end.ensures)) _ _ r (not-false _ c.if-not-read.false)
    (rw (c.part-reference.ensures, c.get-start.ensures, c.get-end.ensures) at
    (sym c.end_fits.ensures ∙ c.if-not-end_fits.false)) (sym c.counts_fit.ensures ∙ c.if-not-counts_fit.false)
