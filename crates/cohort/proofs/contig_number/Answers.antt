-- No site before this one is on the contig.
use mathlib.Core.Path.{◌∙◌, sym}
use Rattle.cohort.proofs.Contigs.{found_here, none_next, none_on, none_start}
use Rattle.cohort.proofs.contig_number.Goals as goal

pub loop-site-init : goal.loop-site-init
loop-site-init c = none_start _ _ _ _

pub returns-then-is_first_on : goal.returns-then-is_first_on
returns-then-is_first_on c = found_here _ _ _ _ _ c.loop-site.invariant c.loop-site-test.true (sym (c.is_first_on.ensures) ∙ c.if-is_first_on.true)

pub loop-site-preserved : goal.loop-site-preserved
loop-site-preserved c = none_next _ _ _ _ _ c.loop-site.invariant c.loop-site-test.true c.requires (sym (c.is_first_on.ensures) ∙ c.if-is_first_on.false)

pub returns : goal.returns
returns c = none_on _ _ _ _ _ c.loop-site.invariant c.loop-site-test.false
