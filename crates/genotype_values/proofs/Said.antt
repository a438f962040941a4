-- What is said of a sample whose values were remapped; and what `site_data` says of a site.
-- Assumes nothing.
use Prim.Native.Nat.{◌<◌, ◌≤◌, ℕ}
use lib.ListN.{length}
use mathlib.Core.List.{List, [], ◌∷◌}
use mathlib.Core.Option.{Option, map, bind}
use mathlib.Core.Path.{◌∙◌, ◌≡◌, ap, refl, sym}
use native.Mathlib.Omega.{arith}
use Rattle.definitions.specs.Alleles.{Allele}
use Rattle.definitions.specs.Cohort.{Site}
use Rattle.definitions.specs.Genotypes.{best_genotype, remapped_ad, remapped_pl, site_data}
use Rattle.definitions.specs.Lists.{only_if}
use Rattle.definitions.specs.MergedAlleles.{per_sample_map, remapped_alleles}
use Rattle.definitions.specs.Printed.{printed_sample_data}
use Rattle.laws.proofs.Genotypes.{genotype_count_some}
use Rattle.genotype_values.specs.Remapped.{of_present}
use Rattle.genotype_values.specs.Values.{least_pair, present, said_of, values_of}
use Rattle.genotype_values.proofs.Best.{best_is, present_some}
use Rattle.genotype_values.proofs.Mapped.{ad_length, pl_length}

-- a site's data are the values of its own map, GQ, DP, MIN_DP, AD and PL
pub site_values : (ref : List ℕ) (alts : List Allele) (position : ℕ) (s : Site)
    → site_data ref alts position s
    ≡ values_of (per_sample_map (remapped_alleles ref position s) alts) s.gq s.dp s.mindp s.ad s.pl
unfolding site_data values_of
site_values ref alts position s = refl

-- remapped values are there if the sample's are
said : (f : List ℕ → List ℕ) (xs : List ℕ) → 0 < length (f xs) → present (of_present f xs) ≡ map f (present xs)
unfolding of_present only_if
said f [] h = refl
said f (x ∷ xs) h = present_some (f (x ∷ xs)) h ∙ ap (map f) (sym (present_some (x ∷ xs) (omega arith)))

module _ (allele_map : List ℕ) (alleles : 0 < length allele_map) where
  said_ad : (ad : List ℕ) → present (of_present (remapped_ad allele_map) ad) ≡ map (remapped_ad allele_map) (present ad)
  said_ad ad = said (remapped_ad allele_map) ad (omega (arith, ad_length allele_map ad))

  said_pl : (pl : List ℕ) → present (of_present (remapped_pl allele_map) pl) ≡ map (remapped_pl allele_map) (present pl)
  said_pl pl = said (remapped_pl allele_map) pl (omega (arith, pl_length allele_map pl, genotype_count_some (length allele_map) alleles))

  said_gt : (pl : List ℕ) → length allele_map ≤ 16
      → least_pair (of_present (remapped_pl allele_map) pl)
      ≡ map (best_genotype (length allele_map)) (map (remapped_pl allele_map) (present pl))
  unfolding of_present only_if least_pair bind
  said_gt [] few = refl
  said_gt (x ∷ pl) few =
      best_is (length allele_map) (remapped_pl allele_map (x ∷ pl)) alleles few (pl_length allele_map (x ∷ pl))
      ∙ ap (λ (o : Option (List ℕ)). map (best_genotype (length allele_map)) (map (remapped_pl allele_map) o)) (sym (present_some (x ∷ pl) (omega arith)))

  pub said_values : (gq dp mindp : Option ℕ) (ad pl : List ℕ) → length allele_map ≤ 16
      → said_of gq dp mindp (of_present (remapped_ad allele_map) ad) (of_present (remapped_pl allele_map) pl)
      ≡ values_of allele_map gq dp mindp (present ad) (present pl)
  unfolding said_of values_of
  said_values gq dp mindp ad pl few = rw (said_gt pl few, said_ad ad, said_pl pl)

  -- the lines of the values that stand at the fronts of two arrays
  pub fronts_printed : (gq dp mindp : Option ℕ) (ad pl : List ℕ) {ads pls : List ℕ} → length allele_map ≤ 16
      → ads ≡ of_present (remapped_ad allele_map) ad → pls ≡ of_present (remapped_pl allele_map) pl
      → printed_sample_data (said_of gq dp mindp ads pls) ≡ printed_sample_data (values_of allele_map gq dp mindp (present ad) (present pl))
  fronts_printed gq dp mindp ad pl few e f = rw (e, f, said_values gq dp mindp ad pl few)
