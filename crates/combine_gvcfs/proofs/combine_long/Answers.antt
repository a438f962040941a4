-- The tables have room for all.
use borrow.Author.Rules.{rules}
use mathlib.Core.Path.{refl}
use Rattle.combine_gvcfs.proofs.Loading.{full_table, long_fit, tried_full, tried_refused}
use Rattle.combine_gvcfs.specs.Combined.{TriedWith}
use Rattle.combine_gvcfs.proofs.combine_long.Goals as goal

pub combine_with-tried-requires : goal.combine_with-tried-requires
combine_with-tried-requires c = (c.requires, long_fit refl refl refl refl refl)

pub returns-in-Ok : goal.returns-in-Ok
unfolding TriedWith
returns-in-Ok c = c.in-Ok.ensures

pub returns-in-Refused : goal.returns-in-Refused
returns-in-Refused c = tried_refused _ _ _ _ _ c.in-Err.is c.in-Refused.is c.combine_with-tried.ensures

pub returns-in-NoRoom : goal.returns-in-NoRoom
returns-in-NoRoom c = full_table _ refl (tried_full _ _ _ _ _ c.in-Err.is c.in-NoRoom.is c.combine_with-tried.ensures).1
