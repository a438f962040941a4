-- Site by site, from the last to the first.
use mathlib.Core.List.{[], flat_map, reverse}
use mathlib.Core.Path.{◌∙◌, ap, subst, sym}
use Rattle.laws.proofs.Every.{every_at, every_reverse}
use Rattle.std.proofs.lemmas.Iterator.Adapters.{YieldsList-from_rev_slice}
use Rattle.std.proofs.lemmas.Iterator.Consumers.{YieldsList-end, YieldsList-so_far, YieldsList-turn}
use Rattle.merged_alleles.proofs.Turns.{none_added, sites_more, sites_too_many}
use Rattle.merged_alleles.specs.Alts.{Added, add_all, site_letters}
use Rattle.merged_alleles.specs.SoundSites.{SoundRow}
use Rattle.merged_alleles.proofs.letter_alts.Goals as goal

pub loop-site-init : goal.loop-site-init
unfolding flat_map
loop-site-init c = none_added _ c.requires.0

pub remap_alleles-requires : goal.remap_alleles-requires
remap_alleles-requires c =
    let road = YieldsList-from_rev_slice c.args.found.now cc in
    let turn = YieldsList-turn road c.loop-site.yielded _ c.loop-site.yielded_by _ _ c.in-Some.site c.in-Some.is c.next.ensures.steps in (
      c.loop-site.invariant.0,
      subst (SoundRow c.args.s.now c.args.rows.now) (sym turn.1) (every_at _ _ turn.0 (every_reverse c.args.found.now c.requires.1.sites)),
      c.requires.1.reference,
    )

pub returns-in_err-laid : goal.returns-in_err-laid
unfolding Added
returns-in_err-laid c =
    let road = YieldsList-from_rev_slice c.args.found.now cc in
    let before = YieldsList-so_far road c.loop-site.yielded _ c.loop-site.yielded_by in
    let turn = YieldsList-turn road c.loop-site.yielded _ c.loop-site.yielded_by _ _ c.in-Some.site c.in-Some.is c.next.ensures.steps in
    rw c.from_residual.ensures
    (sites_too_many _ _ _ _ c.loop-site.yielded c.in-Some.site c.loop-site.invariant (reverse c.args.found.now) before turn.0 turn.1 c.in_err-laid.ensures)

pub loop-site-preserved : goal.loop-site-preserved
unfolding Added
loop-site-preserved c = sites_more _ _ _ _ c.loop-site.yielded c.in-Some.site c.loop-site.invariant c.in_ok-laid.ensures

pub returns : goal.returns
unfolding Added
returns c =
    let all = YieldsList-end (YieldsList-from_rev_slice c.args.found.now cc) c.loop-site.yielded _ c.loop-site.yielded_by _ _ c.in-None.is c.next.ensures.steps in
    let letters = site_letters c.args.s.now c.args.rows.now c.args.reference.now c.args.position.0 in
    (c.loop-site.invariant.0, c.loop-site.invariant.1 ∙ ap (λ l. add_all [] (flat_map letters l)) all.0)
