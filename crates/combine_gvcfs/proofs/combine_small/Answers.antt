-- The tables for 64 sites, or those for 256.
use borrow.Author.Rules.{rules}
use mathlib.Core.Path.{refl}
use native.Mathlib.Omega.{arith}
use Rattle.combine_gvcfs.proofs.Loading.{tried_longer}
use Rattle.combine_gvcfs.specs.Combined.{TriedWith}
use Rattle.combine_gvcfs.proofs.combine_small.Goals as goal

pub returns-then-not-is_small : goal.returns-then-not-is_small
unfolding TriedWith
returns-then-not-is_small c = (refl, omega arith)

pub returns-then-cohort-le4992 : goal.returns-then-cohort-le4992
returns-then-cohort-le4992 c = tried_longer _ _ _ _ 1408 5632 _ (omega arith) (c.combine_tiny.ensures)
