-- By what stands at the place.
use mathlib.Core.Path.{◌∙◌}
use Rattle.diploid_pairs.specs.Pairs.{pair_of}
use Rattle.shown_alleles.proofs.Pairs.{pair_not_there, pair_there}
use Rattle.shown_alleles.proofs.pair_has.Goals as goal

pub returns-in-Some : goal.returns-in-Some
unfolding pair_of
returns-in-Some c = let e = rw (c.get.ensures, c.low.ensures, c.get-in-Some.ensures, c.high.ensures) at c.is_either.ensures in
    e ∙ pair_there _ _ _ _ c.in-Some.ensures

pub returns-in-None : goal.returns-in-None
unfolding pair_of
returns-in-None c = c.is_either-in-None.ensures ∙ pair_not_there _ _ c.in-None.ensures
