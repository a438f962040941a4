-- The numbers of a site's lists, put into its row: the table has the same sites.
use Prim.Native.Nat.{◌*◌, ◌+◌, ◌<◌, ◌≤◌, suc, zero, ℕ}
use lib.ListN.{length}
use lib.Seq.{length-sets, sets}
use mathlib.Core.Bool.{Bool}
use mathlib.Core.List.{List, [], ◌∷◌}
use mathlib.Core.Option.{Option, get_or, none, some}
use mathlib.Core.Path.{◌∙◌, ◌≡◌, ap, refl}
use native.Mathlib.Omega.{arith}
use Rattle.definitions.specs.Cohort.{Site}
use Rattle.definitions.specs.Numbers.{max_number, number_list}
use Rattle.kv_text.specs.Fields.{between}
use Rattle.laws.proofs.Decimals.{InRange}
use Rattle.laws.proofs.Every.{Every, also}
use Rattle.laws.proofs.SoundValues.{Numbers, numbers_sound}
use Rattle.site_groups.specs.SiteGroups.{Counted, SiteTo, Stored, site_from}
use Rattle.site_groups.specs.declared.NumbersPart.{NumbersPart}
use Rattle.site_groups.specs.declared.SiteAlleles.{SiteAlleles}
use Rattle.site_groups.specs.declared.SitePlace.{SitePlace}
use Rattle.site_groups.specs.declared.SiteValues.{SiteValues}
use Rattle.tables.proofs.Stored.{map_same}
use Rattle.tables.proofs.StoredLists.{AtFront, SameRows, Small, stored_ad, stored_pl}
use Rattle.tables.specs.Tables.{part_at, site_at, with_numbers}
use Rattle.cohort.proofs.Rows.{site_here}
use Rattle.cohort.proofs.Sites.{Reading, site_read}
use Rattle.cohort.specs.Cohort.{contig_names, first_on, row_of, sites_in}

-- ---- what was read

in_range_small : (ns : List ℕ) → Every InRange ns → Small ns
unfolding max_number
in_range_small [] h i = omega arith
in_range_small (n ∷ ns) (also h hs) zero = omega arith
in_range_small (n ∷ ns) (also h hs) (suc i) = in_range_small ns hs i

read_small : (t : List ℕ) → Small (get_or (number_list t) [])
read_small t = go (number_list t) (numbers_sound t)
  where
    go : (o : Option (List ℕ)) → ((ns : List ℕ) → o ≡ some ns → Numbers ns) → Small (get_or o [])
    go none sound i = omega arith
    go (some ns) sound i = in_range_small ns (sound ns refl).in_range_lem i

at_front : (s : List ℕ) (n : NumbersPart) (before : List ℕ) {o : Option (List ℕ)} {after : List ℕ} → o ≡ number_list (between s n.at n.end)
    → Counted s n → Stored s n before after → AtFront o after n.count
at_front s n before e counted stored =
    rw e (record { before = before; laid = stored; count_is = counted; small = read_small (between s n.at n.end) })

-- ---- the same sites

module _ {samples : ℕ} {s : List ℕ} {at₀ : ℕ} {rows₀ rows : List ℕ} {next count : ℕ} {after : List ℕ} where
  pub same_reading : Reading samples s at₀ rows₀ rows next count → SameRows s rows after (count * 22) → Reading samples s at₀ rows₀ after next count
  same_reading inv same = record {
    long = same.long ∙ inv.long;
    numbered = record {
      contigs = λ site h. rw (part site, names, same.columns 1 site (omega arith)) (inv.numbered.contigs site h);
      blocks = λ site h. rw (same.columns 4 site (omega arith), same.sites site) (inv.numbered.blocks site h);
    };
    few = inv.few;
    room = inv.room;
    rest = same.rest ∙ inv.rest;
    whole = λ names n m. rw sites (inv.whole names n m);
  }
    where
      part : (site : ℕ) → part_at 7 8 s after site ≡ part_at 7 8 s rows site
      part site = unfold part_at in (rw (same.columns 7 site (omega arith), same.columns 8 site (omega arith)))

      names : contig_names s after count ≡ contig_names s rows count
      names = unfold contig_names in (map_same (part_at 7 8 s after) (part_at 7 8 s rows) 0 count (λ i h. part i))

      sites : sites_in s after count ≡ sites_in s rows count
      sites = unfold sites_in in (map_same (site_at s after) (site_at s rows) 0 count (λ i h. same.sites i))

-- the numbers of both lists stand at the fronts of slices that have as much room as a row
pub record ListsRead (s : List ℕ) (v : SiteValues) (ad pl : List ℕ) : Type 0 where
  pub ad₀ : List ℕ
  pub pl₀ : List ℕ
  pub ad_stored : Stored s v.ad ad₀ ad
  pub pl_stored : Stored s v.pl pl₀ pl
  pub ad_long : length ad ≡ 4
  pub pl_long : length pl ≡ 10

-- a site more, whose row has text for its lists, and then their numbers
module _ {samples : ℕ} {s : List ℕ} {at₀ : ℕ} {rows₀ rows : List ℕ} {next count : ℕ} (inv : Reading samples s at₀ rows₀ rows next count)
    (more : next < length s) {p : SitePlace} {a : SiteAlleles} {v : SiteValues} {block : Bool} (to : SiteTo s next samples count p a v block)
    (contig : ℕ) (first : contig ≡ first_on s rows count (between s p.contig.at p.contig.end)) (fits : count * 22 + 22 ≤ length rows)
    {ad pl : List ℕ} (lists : ListsRead s v ad pl) where
  abbrev after : List ℕ
  after = sets rows (count * 22) (row_of p contig a v block)

  abbrev with_ad : List ℕ
  with_ad = with_numbers (count * 22 + 13) 2 ad v.ad.count after

  after_long : length after ≡ length rows
  after_long = length-sets rows (count * 22) (row_of p contig a v block)

  site_is : site_at s after count ≡ site_from s p a v
  site_is = site_here s rows count p contig a v block fits to.small

  ad_same : SameRows s after with_ad (count * 22 + 22)
  unfolding site_at
  ad_same =
      stored_ad s after count ad v.ad.count (omega (arith, after_long)) lists.ad_long
      (at_front s v.ad lists.ad₀ (ap (λ (x : Site). x.ad) site_is) to.ad_count lists.ad_stored)

  pl_same : SameRows s with_ad (with_numbers (count * 22 + 16) 5 pl v.pl.count with_ad) (count * 22 + 22)
  unfolding site_at
  pl_same =
      stored_pl s with_ad count pl v.pl.count (omega (arith, after_long, ad_same.long)) lists.pl_long
      (at_front s v.pl lists.pl₀ (ap (λ (x : Site). x.pl) (ad_same.sites count) ∙ ap (λ (x : Site). x.pl) site_is) to.pl_count lists.pl_stored)

  pub numbers_read_lem : {put last : List ℕ} → put ≡ after
      → last ≡ with_numbers (count * 22 + 16) 5 pl v.pl.count (with_numbers (count * 22 + 13) 2 ad v.ad.count put)
      → Reading samples s at₀ rows₀ last v.next (count + 1)
  numbers_read_lem site-put numbers-put =
      let there : (count + 1) * 22 ≡ count * 22 + 22 = omega arith in
      let read = site_read samples s at₀ rows₀ rows next count inv more p a v block to contig first fits after after_long refl in
      rw (numbers-put, site-put) (same_reading {rows = with_ad} (same_reading {rows = after} read (rw there ad_same)) (rw there pl_same))
