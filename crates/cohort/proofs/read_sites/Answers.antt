-- Group by group, each behind the sites in the table, as long as there is a row.
use borrow.Author.Rules.{rules}
use mathlib.Core.Path.{◌∙◌, refl, sym}
use native.Mathlib.Omega.{arith}
use Rattle.cohort.proofs.Numbers.{numbers_read_lem}
use Rattle.cohort.proofs.Sites.{no_row, no_row_answer, reading_start, refused_answer, site_refused, sites_answer_lem, sites_end}
use Rattle.site_groups.proofs.Refusals.{err_is}
use Rattle.site_groups.specs.SiteGroups.{SiteRead}
use Rattle.cohort.proofs.read_sites.Goals as goal

pub loop-next-init : goal.loop-next-init
loop-next-init c = (reading_start _ _ _ _, refl, refl)

pub slice_bounds-site_at-end : goal.slice_bounds-site_at-end
slice_bounds-site_at-end c = let long = c.loop-next.invariant.1 in search rules

pub slice_bounds-site_at-end-in-loop-next : goal.slice_bounds-site_at-end-in-loop-next
slice_bounds-site_at-end-in-loop-next c = let long = c.loop-next.invariant.2 in search rules

pub shape_of-rows-in_err-group : goal.shape_of-rows-in_err-group
shape_of-rows-in_err-group c = c.loop-next.invariant.0.long

pub returns-in_err-group : goal.returns-in_err-group
unfolding SiteRead
returns-in_err-group c =
    let faulty = c.in_err-group.ensures.0 in
    rw (err_is _ _ c.from_residual.ensures.1) (record {
      answer = refused_answer _ _ _ _ _ _ _ c.loop-next.invariant.0 c.loop-next-test.true _ faulty;
      table = site_refused _ _ _ _ _ _ _ c.loop-next.invariant.0 c.loop-next-test.true _ faulty;
    })

pub overflow_mul-count : goal.overflow_mul-count
overflow_mul-count c = omega (arith, c.loop-next.invariant.0.few)

pub overflow_add-count : goal.overflow_add-count
overflow_add-count c = omega (arith, c.loop-next.invariant.0.few)

pub shape_of-rows-then-rows-count : goal.shape_of-rows-then-rows-count
shape_of-rows-then-rows-count c = c.loop-next.invariant.0.long

pub returns-then-rows-count : goal.returns-then-rows-count
unfolding SiteRead
returns-then-rows-count c = let to = c.in_ok-group.ensures.0 in record { answer = no_row_answer _ _ _ _ _ _ _ c.loop-next.invariant.0 c.loop-next-test.true _ _ _ _ to (omega (arith, c.if-rows-count.true)); table = no_row _ _ _ _ _ _ _ c.loop-next.invariant.0 c.loop-next-test.true to.value (omega (arith, c.if-rows-count.true)) }

pub contig_number-contig-requires : goal.contig_number-contig-requires
contig_number-contig-requires c = c.loop-next.invariant.0.numbered.contigs

pub put_site-requires : goal.put_site-requires
put_site-requires c = omega (arith, c.if-rows-count.false)

pub slice_bounds-put_numbers-end : goal.slice_bounds-put_numbers-end
slice_bounds-put_numbers-end c = sym (c.site_at.auto.ad ∙ c.loop-next.invariant.1)

pub slice_bounds-put_numbers-end-in-loop-next : goal.slice_bounds-put_numbers-end-in-loop-next
slice_bounds-put_numbers-end-in-loop-next c = sym (c.site_at.auto.pl ∙ c.loop-next.invariant.2)

pub put_numbers-requires : goal.put_numbers-requires
put_numbers-requires c = omega (arith, c.if-rows-count.false, c.put_site.auto.rows)

pub overflow_add-count-in-loop-next : goal.overflow_add-count-in-loop-next
overflow_add-count-in-loop-next c = omega (arith, c.loop-next.invariant.0.few)

pub loop-next-smaller : goal.loop-next-smaller
unfolding SiteRead
loop-next-smaller c = let to = c.in_ok-group.ensures.0 in omega (arith, to.forward, to.within)

pub loop-next-preserved : goal.loop-next-preserved
unfolding SiteRead
loop-next-preserved c = let g = c.in_ok-group.ensures in
    let ad_long = c.site_at.auto.ad ∙ c.loop-next.invariant.1 in
    let pl_long = c.site_at.auto.pl ∙ c.loop-next.invariant.2 in (
      numbers_read_lem c.loop-next.invariant.0 c.loop-next-test.true g.0 _
          (rw c.part-name.ensures at c.contig_number-contig.ensures) (omega (arith, c.if-rows-count.false))
          (record { ad₀ = _; pl₀ = _; ad_stored = g.1.0; pl_stored = g.1.1; ad_long = ad_long; pl_long = pl_long }) c.put_site.ensures
          c.put_numbers.ensures,
      ad_long,
      pl_long,
    )

pub shape_of-rows : goal.shape_of-rows
shape_of-rows c = c.loop-next.invariant.0.long

pub returns : goal.returns
returns c = record { answer = sites_answer_lem _ _ _ _ _ _ _ c.loop-next.invariant.0 c.loop-next-test.false; table = sites_end _ _ _ _ _ _ _ c.loop-next.invariant.0 c.loop-next-test.false }
