-- By whether there is an AD.
use borrow.Author.Rules.{rules}
use mathlib.Core.Path.{sym}
use Rattle.definitions.specs.Genotypes.{remapped_ad}
use Rattle.genotype_values.proofs.Filled.{none_filled, some_filled}
use Rattle.genotype_values.proofs.Mapped.{ad_length}
use Rattle.genotype_values.proofs.remap_present_ad.Goals as goal

pub returns-then-ad-eq0 : goal.returns-then-ad-eq0
returns-then-ad-eq0 c = none_filled (remapped_ad c.args.map.now) c.args.ad.now c.if-ad-eq0.true

pub returns : goal.returns
returns c = let args = c.args in
    some_filled (remapped_ad args.map.now) args.ad.now c.if-ad-eq0.false
    (record { laid = c.remap_ad.ensures; count = sym (ad_length args.map.now args.ad.now) })
