-- The sites of a contig in runs, one for each sample, are the numbers of its sites, each once.
use Prim.Native.Nat.{◌<◌, ℕ}
use borrow.Author.Tests.{eq-eqb, eqb-true}
use lib.Dec.{eqb}
use lib.ListN.{get_or, length, take}
use mathlib.Core.List.{List, flat_map}
use mathlib.Core.Path.{◌∙◌, ◌≡◌, ap, subst, sym}
use native.Mathlib.Omega.{arith}
use Rattle.definitions.specs.Bytes.{same_bytes}
use Rattle.definitions.specs.Cohort.{Cohort, Site}
use Rattle.definitions.specs.Lists.{numbers_from}
use Rattle.laws.proofs.Every.{every_member, every_of}
use Rattle.laws.proofs.NoneTwice.{Once, numbers_once, runs_once}
use Rattle.laws.proofs.SoundInput.{SoundCohort}
use Rattle.tables.proofs.ContigNumbers.{NumbersOn, site_in}
use Rattle.tables.proofs.SameContig.{same_contig_lem}
use Rattle.tables.specs.Tables.{SiteRows, column, part_at, site_at}
use Rattle.covering_sites.proofs.CoveringFound.{contig_member, member_contig, member_run}
use Rattle.covering_sites.proofs.Keys.{run_once}
use Rattle.covering_sites.specs.Covering.{contig_sites}
use Rattle.covering_sites.specs.Runs.{Runs}

-- a contig of a cohort that tables hold, by its name and its first site
module _ {c : Cohort} {s rows : List ℕ} (sound : SoundCohort c) (table : SiteRows s rows c.sites) {samples : ℕ}
    (names : samples ≡ length c.names) {first : ℕ} (known : first < length c.sites) (own : column 1 rows first ≡ first)
    {contig : List ℕ} (name : contig ≡ part_at 7 8 s rows first) where
  abbrev sites : List Site
  sites = c.sites

  abbrev runs : List ℕ
  runs = flat_map (contig_sites rows (length sites) first) (numbers_from 0 samples)

  sample_known : (k : ℕ) → k < length sites → column 0 rows k < samples
  unfolding site_at
  sample_known k below = omega (arith, names, every_member (site_in table k below) sound.known)

  same_name : (k : ℕ) → k < length sites → eqb (column 1 rows k) first ≡ same_bytes contig (site_at s rows k).contig
  unfolding site_at
  same_name k below =
      same_contig_lem table k first below known own ∙ ap (λ (n : List ℕ). same_bytes n (site_at s rows k).contig) (sym name)

  runs_are_numbers : NumbersOn s rows sites contig runs
  runs_are_numbers = record {
    only = every_of runs (λ k m.
        let (below, its) = contig_member rows sound.few_sites first samples m in
        (below, sym (same_name k below) ∙ eq-eqb (column 1 rows k) first its));
    each = λ k below same.
        member_contig rows sound.few_sites first samples (sample_known k below) below
        (eqb-true (column 1 rows k) first (same_name k below ∙ same));
  }

  runs_have_each_once : Once runs
  runs_have_each_once =
      let few = sound.few_sites in
      runs_once (contig_sites rows (length sites) first) (column 0 rows) (λ sample. run_once rows few sample first)
      (λ sample k m. (member_run rows few first sample m).its_sample) (numbers_once 0 samples)

  module _ {chosen bounds : List ℕ} (in_runs : Runs chosen bounds samples (contig_sites rows (length c.sites) first)) where
    pub chosen_are_numbers : NumbersOn s rows sites contig (take (get_or bounds samples 0) chosen)
    chosen_are_numbers = subst (NumbersOn s rows sites contig) (sym in_runs.whole) runs_are_numbers

    pub chosen_once : Once (take (get_or bounds samples 0) chosen)
    chosen_once = subst Once (sym in_runs.whole) runs_have_each_once
