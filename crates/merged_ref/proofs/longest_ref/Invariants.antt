-- From the last site on, as the definition does: the best is the longest of the sites that were yielded.
use Rattle.std.proofs.Common.{◌≡◌, map, reverse}
use Rattle.merged_ref.specs.Answers.{longest_site}
use Rattle.merged_ref.proofs.longest_ref.Given as goal

abbrev pub invariant-loop-site : goal.invariant-loop-site
invariant-loop-site l = l.best ≡ longest_site l.s l.rows l.position.0 (reverse (map (λ y. y.now) l.yielded))
