-- Small tables first, then those for all.
use borrow.Author.Rules.{rules}
use Rattle.combine_gvcfs.proofs.Loading.{tried_again, tried_full, tried_refused}
use Rattle.combine_gvcfs.specs.Combined.{TriedWith}
use Rattle.combine_gvcfs.proofs.combine_fitting.Goals as goal

pub returns-in-Ok : goal.returns-in-Ok
unfolding TriedWith
returns-in-Ok c = c.in-Ok.ensures

pub returns-in-Refused : goal.returns-in-Refused
returns-in-Refused c = tried_refused _ _ _ _ _ c.in-Err.is c.in-Refused.is c.combine_small-tried.ensures

pub returns-in-NoRoom : goal.returns-in-NoRoom
returns-in-NoRoom c = let full = tried_full _ _ _ _ _ c.in-Err.is c.in-NoRoom.is c.combine_small-tried.ensures in
    tried_again c.combine_small-tried.auto.scratch full.0 c.combine_long.ensures
