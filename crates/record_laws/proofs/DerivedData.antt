-- `data_derived`: in a sample's data, GT follows from PL, so that what is printed of it tells whether it agrees (`same_printed`).
use Prim.Native.Nat.{suc, ℕ}
use lib.Dec.{eqb}
use lib.ListN.{length, length-map}
use mathlib.Core.List.{List, map}
use mathlib.Core.Option
use mathlib.Core.Option.{Option, none, some}
use mathlib.Core.Path.{◌≡◌, ap, refl}
use Rattle.definitions.specs.Alleles.{Allele}
use Rattle.definitions.specs.Cohort.{Site}
use Rattle.definitions.specs.Genotypes.{best_genotype, data_of_sample, missing_data, site_data}
use Rattle.definitions.specs.Lists.{first_where, numbers_from}
use Rattle.definitions.specs.MergedAlleles.{per_sample_map, remapped_alleles, sample_allele_of}
use Rattle.laws.proofs.Every.{Every, every_all, every_of_map}
use Rattle.laws.proofs.SampleDataSound.{sample_data_sound}
use Rattle.laws.proofs.SoundInput.{SoundSite}
use Rattle.record_laws.proofs.SamePrinted.{Derived}

site_gt : (ref : List ℕ) (alts : List Allele) (position : ℕ) (s : Site)
    → (site_data ref alts position s).gt ≡ Option.map (best_genotype (suc (length alts))) (site_data ref alts position s).pl
unfolding site_data per_sample_map
site_gt ref alts position s = ap (λ (n : ℕ). Option.map (best_genotype (suc n)) (site_data ref alts position s).pl) count
  where
    count : length (map (sample_allele_of (remapped_alleles ref position s)) alts) ≡ length alts
    count = length-map alts (sample_allele_of (remapped_alleles ref position s))

module _ (ref : List ℕ) (alts : List Allele) (position : ℕ) (covering : List Site) where
  data_gt : (sample : ℕ) → (data_of_sample ref alts position covering sample).gt
      ≡ Option.map (best_genotype (suc (length alts))) (data_of_sample ref alts position covering sample).pl
  unfolding data_of_sample missing_data
  data_gt sample = go (first_where (λ s. eqb s.sample sample) covering) refl
    where
      go : (o : Option Site) → first_where (λ s. eqb s.sample sample) covering ≡ o
          → (data_of_sample ref alts position covering sample).gt
          ≡ Option.map (best_genotype (suc (length alts))) (data_of_sample ref alts position covering sample).pl
      go none e = rw e
      go (some s) e = rw e (site_gt ref alts position s)

  pub data_derived : (sample : ℕ) → Every SoundSite covering → Derived (suc (length alts)) (data_of_sample ref alts position covering sample)
  data_derived sample h = record { sound = sample_data_sound ref alts position covering sample h; gt = data_gt sample }

  -- all samples
  pub all_data_derived : (samples : ℕ) → Every SoundSite covering
      → Every (Derived (suc (length alts))) (map (data_of_sample ref alts position covering) (numbers_from 0 samples))
  all_data_derived samples h =
      every_of_map (data_of_sample ref alts position covering) (every_all (λ sample. data_derived sample h) (numbers_from 0 samples))
