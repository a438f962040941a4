-- One more site stored, and all of them in the end.
use Rattle.std.proofs.Common.{◌∙◌, ap, refl, reverse}
use Rattle.std.proofs.lemmas.Iterator.Adapters.{YieldsList-from_rev_slice}
use Rattle.std.proofs.lemmas.Iterator.Consumers.{YieldsList-end}
use Rattle.std.proofs.lemmas.List.{reverse-reverse}
use Rattle.found_sites.proofs.Entries.{store_more}
use Rattle.found_sites.specs.Own.{put_all}
use Rattle.found_sites.proofs.spread.Goals as goal

pub loop-found-init : goal.loop-found-init
unfolding put_all
loop-found-init c = refl

pub loop-found-preserved : goal.loop-found-preserved
loop-found-preserved c = store_more c.args.own.now c.loop-found.yielded c.in-Some.found c.loop-found.invariant c.get.ensures c.store.ensures

pub returns : goal.returns
returns c =
    let all = YieldsList-end (YieldsList-from_rev_slice c.args.list.now cc) c.loop-found.yielded _ c.loop-found.yielded_by _ _ c.in-None.is c.next.ensures.steps in
    c.loop-found.invariant
    ∙ ap (λ l. put_all (reverse l) c.args.own.now) all.0
    ∙ ap (λ l. put_all l c.args.own.now) (reverse-reverse c.args.list.now)
