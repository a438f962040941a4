-- What is spread is the list's beginning, which is all that was gathered; all sites stored are the row of each sample's first one.
use Rattle.std.proofs.Common.{◌∙◌, ap, arith, List}
use Rattle.found_sites.proofs.Entries.{found_count, take_gathered}
use Rattle.found_sites.proofs.OwnSites.{all_own}
use Rattle.found_sites.specs.Own.{found_list, put_all}
use Rattle.found_sites.specs.declared.Found.{Found}
use Rattle.found_sites.proofs.own_sites.Goals as goal

pub returns : goal.returns
returns c =
    let found = found_list c.args.sites.now c.args.owners.now in
    let count = found_count c.args.sites.now c.args.owners.now c.requires.1 in
    c.spread.ensures
    ∙ ap (λ (l : List Found). put_all l c.args.own.now)
    (rw (c.gather.ensures, ← count) (take_gathered _ found (omega (arith, count))))
    ∙ all_own _ _
