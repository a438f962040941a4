-- The loop's invariant: the sites from here on give the letter as all do.
use mathlib.Core.Path.{◌∙◌, sym}
use Rattle.merged_ref.proofs.Letters.{there_is, there_is_none}
use Rattle.merged_ref.proofs.Reached.{reached_absent, reached_found, reached_passed, reached_start}
use Rattle.merged_ref.proofs.reached_letter.Goals as goal

pub loop-site-init : goal.loop-site-init
loop-site-init c = reached_start _ _ _ _

pub returns-then-is_some : goal.returns-then-is_some
returns-then-is_some c =
    let (i, there) = there_is _ (sym c.is_some.ensures ∙ c.if-is_some.true) in
    rw there (reached_found _ _ _ c.loop-site.invariant c.loop-site-test.true (rw there at c.site_letter-letter.ensures))

pub loop-site-preserved : goal.loop-site-preserved
loop-site-preserved c =
    let lacking = there_is_none _ (sym c.is_some.ensures ∙ c.if-is_some.false) in
    reached_passed _ _ _ c.loop-site.invariant c.loop-site-test.true (rw lacking at c.site_letter-letter.ensures)

pub returns : goal.returns
returns c = reached_absent _ _ _ c.loop-site.invariant c.loop-site-test.false
