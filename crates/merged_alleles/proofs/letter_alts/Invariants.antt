-- Site by site, from the last to the first: their letter ALTs are on the list.
use mathlib.Core.List.{[], flat_map}
use Rattle.merged_alleles.proofs.Turns.{AddedTo, seen}
use Rattle.merged_alleles.specs.Alts.{site_letters}
use Rattle.merged_alleles.proofs.letter_alts.Given as goal

abbrev pub invariant-loop-site : goal.invariant-loop-site
invariant-loop-site l = AddedTo [] (flat_map (site_letters l.s l.rows l.reference l.position.0) (seen l.yielded)) l.alts l.laid.len l.laid.count
