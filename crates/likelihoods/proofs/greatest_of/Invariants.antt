-- The greatest so far, and what is left to compare with it.
use lib.ListN.{drop}
use mathlib.Core.List.{foldl}
use mathlib.Core.Path.{◌≡◌}
use Rattle.definitions.specs.AlleleSubset.{greater, greatest}
use Rattle.likelihoods.proofs.greatest_of.Given as goal

abbrev pub invariant-loop-v : goal.invariant-loop-v
invariant-loop-v l = foldl greater l.best (drop l.v-index l.v-items) ≡ greatest l.values
