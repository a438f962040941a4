-- What is stored so far: the sites that were yielded, the last of them first.
use Rattle.std.proofs.Common.{◌≡◌, map, reverse}
use Rattle.found_sites.specs.Own.{put_all}
use Rattle.found_sites.proofs.spread.Given as goal

abbrev pub invariant-loop-found : goal.invariant-loop-found
invariant-loop-found l = l.own ≡ put_all (reverse (map (λ f. f.now) l.yielded)) l.initial.own
