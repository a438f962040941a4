-- The contig that is asked for, by its first site (`asked_first`), or no site names it (`not_asked`); and what its looks are counted from.
use Prim.Native.Nat.{◌+◌, ◌-◌, ◌<◌, ◌≤◌, ℕ}
use lib.ListN.{get_or, length, take}
use mathlib.Core.Bool.{Bool, false, true}
use mathlib.Core.List.Memᴰ
use mathlib.Core.List.{List, [], map}
use mathlib.Core.Option
use mathlib.Core.Option.{Option, none, some}
use mathlib.Core.Path.{◌∙◌, ◌≡◌, ap, refl, subst, sym}
use native.Mathlib.Nat.{mul-zero}
use native.Mathlib.Omega.{arith}
use Rattle.cohort.proofs.Contigs.{index_first, name_at_lem, names_length}
use Rattle.cohort.proofs.Rows.{site_contigs}
use Rattle.cohort.specs.Cohort.{ContigsNumbered, contig_names, first_on, sites_in}
use Rattle.combined_list.specs.Contigs.{IsFirst, given_clip}
use Rattle.contig_looks.proofs.ContigSites.{looks_ready, runs_ready}
use Rattle.contig_looks.specs.Counting.{LooksReady}
use Rattle.covering_sites.specs.Covering.{contig_sites}
use Rattle.covering_sites.specs.Runs.{Runs}
use Rattle.definitions.specs.Bytes.{same_bytes}
use Rattle.definitions.specs.Cohort.{Site}
use Rattle.definitions.specs.Intervals.{sites_on}
use Rattle.definitions.specs.Lists.{index_where}
use Rattle.definitions.specs.Looks.{contig_looks}
use Rattle.laws.proofs.Bytes.{same_is}
use Rattle.laws.proofs.Members.{◌∈◌, filter_none, index_there}
use Rattle.laws.proofs.Tests.{not_none, some_same}
use Rattle.search_looks.specs.Looked.{FirstReady, SitesReady}
use Rattle.tables.specs.Tables.{SiteRows, column, part_at}

-- ---- its first site

module _ {s rows : List ℕ} {sites : List Site} (t : SiteRows s rows sites) where
  names : List (List ℕ)
  names = contig_names s rows (length sites)

  site_names : map (λ (x : Site). x.contig) sites ≡ names
  unfolding names sites_in
  site_names = ap (map (λ (x : Site). x.contig)) t.read ∙ site_contigs s rows (length sites)

  pub contigs_numbered : ContigsNumbered s rows (length sites)
  unfolding names
  contigs_numbered site h = rw site_names at (t.contigs site h)

  module _ (contig : List ℕ) where
    -- the number of the first site on it is below that of all sites
    pub record FirstNamed (first : ℕ) : Type 0 where
      pub own : column 1 rows first ≡ first
      pub name : contig ≡ part_at 7 8 s rows first

    pub asked_first : first_on s rows (length sites) contig < length sites → FirstNamed (first_on s rows (length sites) contig)
    unfolding first_on names
    asked_first h = go (index_where (same_bytes contig) names) refl h
      where
        go : (o : Option ℕ) → index_where (same_bytes contig) names ≡ o → Option.get_or o (length sites) < length sites
            → FirstNamed (Option.get_or o (length sites))
        go none e h = absurd (omega arith)
        go (some k) e h =
            let first = index_first (same_bytes contig) [] names k e in
            let same : contig ≡ part_at 7 8 s rows k = same_is contig _ first.passes ∙ name_at_lem s rows (length sites) k h in
            let of-contig = ap (λ (n : List ℕ). index_where (same_bytes n) names) same in
            record { own = some_same (sym (contigs_numbered k h) ∙ sym of-contig ∙ e); name = same }

    pub not_asked : length sites ≤ first_on s rows (length sites) contig → sites_on contig sites ≡ []
    unfolding first_on names sites_on
    not_asked h = go (index_where (same_bytes contig) names) refl h
      where
        go : (o : Option ℕ) → index_where (same_bytes contig) names ≡ o → length sites ≤ Option.get_or o (length sites) → sites_on contig sites ≡ []
        go (some k) e h =
            absurd (omega (arith, (index_first (same_bytes contig) [] names k e).inside, names_length s rows (length sites)))
        go none e h = filter_none _ sites (λ site m. other site m (same_bytes contig site.contig) refl)
          where
            other : (site : Site) → site ∈ sites → (b : Bool) → same_bytes contig site.contig ≡ b → b ≡ false
            other site m false q = refl
            other site m true q =
                let (k, found) = index_there (same_bytes contig) _ (Memᴰ.map (λ (x : Site). x.contig) m) q in
                not_none (sym e ∙ ap (index_where (same_bytes contig)) (sym site_names) ∙ found)

-- ---- its looks

-- from its sites in runs, one for each sample, and the clip
module _ {s rows order runs : List ℕ} {samples : ℕ} {clipped : Bool} {clip : List ℕ} {first : ℕ}
    (ready : FirstReady s rows samples clipped clip first order runs) {chosen parts : List ℕ}
    (r : Runs chosen parts samples (contig_sites rows (length ready.tables.loaded.input.cohort.sites) first)) where
  pub chosen_within : get_or parts samples 0 ≤ length chosen
  chosen_within =
      let l = ready.tables.loaded in
      last samples r.bounded.within (omega (arith, l.names, l.sound.cohort.names.some_name))
    where
      last : (n : ℕ) → ((x : ℕ) → x < n → get_or parts (x + 1) 0 ≤ length chosen) → 1 ≤ n → get_or parts n 0 ≤ length chosen
      last n within one =
          let m : ℕ = n - 1 in
          let same : m + 1 ≡ n = omega arith in
          rw same at (within m (omega arith))

  module _ {contig : List ℕ} (e : contig ≡ part_at 7 8 s rows first) {spans : List ℕ} (t : spans ≡ given_clip clipped clip) where
    pub contig_ready : LooksReady rows (take (get_or parts samples 0) chosen) clipped spans contig
    unfolding runs_ready looks_ready
    contig_ready =
        let l = ready.tables.loaded in
        let given = ready.tables.clip_given in
        let at = ready.is_first in
        let w = runs_ready l.input given.short given.spans_from given.clip_is l.sound l.table l.names at.known at.own e r in
        record { input = l.input; points = rw t w.points; all_sites = w.all_sites }

    pub first_counted : {figure : ℕ}
        → ((lent : LooksReady rows (take (get_or parts samples 0) chosen) clipped spans contig) → figure ≡ contig_looks lent.input contig)
        → figure ≡ contig_looks ready.tables.loaded.input (part_at 7 8 s rows first)
    unfolding contig_ready
    first_counted says = says contig_ready ∙ ap (contig_looks ready.tables.loaded.input) e

pub sites_numbered : {s rows order runs : List ℕ} {samples sites : ℕ} {clipped : Bool} {clip : List ℕ}
    → SitesReady s rows samples sites clipped clip order runs → ContigsNumbered s rows sites
sites_numbered {s} {rows} ready =
    subst (λ (n : ℕ). ContigsNumbered s rows n) (sym ready.all_sites) (contigs_numbered ready.tables.loaded.table)

module _ {s rows order runs : List ℕ} {samples sites : ℕ} {clipped : Bool} {clip : List ℕ}
    (ready : SitesReady s rows samples sites clipped clip order runs) (contig : List ℕ) {first : ℕ} (at : first ≡ first_on s rows sites contig) where
  abbrev table : SiteRows s rows ready.tables.loaded.input.cohort.sites
  table = ready.tables.loaded.table

  all : ℕ
  all = length ready.tables.loaded.input.cohort.sites

  found : first ≡ first_on s rows all contig
  unfolding all
  found = at ∙ ap (λ (n : ℕ). first_on s rows n contig) ready.all_sites

  pub none_counted : sites ≤ first → 0 ≡ contig_looks ready.tables.loaded.input contig
  unfolding contig_looks all
  none_counted h = rw (not_asked table contig (omega (arith, found, ready.all_sites))) (sym (mul-zero _))

  module _ (h : first < sites) where
    pub first_named : FirstNamed table contig first
    unfolding all
    first_named = subst (FirstNamed table contig) (sym found) (asked_first table contig (omega (arith, found, ready.all_sites)))

    pub first_ready : FirstReady s rows samples clipped clip first order runs
    first_ready = record {
      referenced = ready.referenced;
      reference = ready.reference;
      tables = ready.tables;
      is_first = record { known = omega (arith, ready.all_sites); own = first_named.own };
    }

    pub asked_counted : {figure : ℕ}
        → ((lent : FirstReady s rows samples clipped clip first order runs) → figure ≡ contig_looks lent.tables.loaded.input (part_at 7 8 s rows first))
        → figure ≡ contig_looks ready.tables.loaded.input contig
    unfolding first_ready
    asked_counted says = says first_ready ∙ ap (contig_looks ready.tables.loaded.input) (sym first_named.name)
