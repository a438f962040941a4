-- The tables have room for 64 sites.
use borrow.Author.Rules.{rules}
use mathlib.Core.Path.{refl}
use native.Mathlib.Omega.{arith}
use Rattle.combine_gvcfs.proofs.Loading.{short_fit}
use Rattle.combine_gvcfs.proofs.combine_tiny.Goals as goal

pub combine_with-requires : goal.combine_with-requires
combine_with-requires c = (c.requires, short_fit 64 (omega arith) refl refl refl refl refl)

pub returns : goal.returns
returns c = c.combine_with.ensures
