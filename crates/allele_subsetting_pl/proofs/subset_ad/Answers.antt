-- The keep list stands at the front of the map.
use borrow.Author.Rules.{rules}
use lib.Seq.{sets}
use mathlib.Core.Path.{◌∙◌, ap, refl}
use Rattle.allele_subsetting_pl.proofs.Fronts.{front, front_length}
use Rattle.definitions.specs.Genotypes.{remapped_ad}
use Rattle.allele_subsetting_pl.proofs.subset_ad.Goals as goal

pub slice_bounds-remap_ad-end : goal.slice_bounds-remap_ad-end
slice_bounds-remap_ad-end c = front_length c.args.keep.now _ c.allele_map.ensures c.requires.few refl

pub returns : goal.returns
returns c = c.remap_ad.ensures ∙ ap (λ k. sets c.args.out.now 0 (remapped_ad k c.args.ad.now))
    (front c.args.keep.now _ c.allele_map.ensures c.requires.few refl)
