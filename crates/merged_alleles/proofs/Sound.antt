-- `found_sound`: what `collect_target_alleles` requires holds of sites found in the table of a sound cohort, and of REF as spelled.
use Prim.Native.Nat.{◌<◌, ◌≤◌, ℕ}
use lib.ListN.{length, length-map}
use mathlib.Core.List.{List, map}
use mathlib.Core.Path.{◌≡◌, refl, subst}
use native.Mathlib.Omega.{arith}
use Rattle.definitions.specs.Alleles.{Allele, capital, is_letter, letters, non_ref, span_del, spelled}
use Rattle.definitions.specs.Bytes.{comma, fields_of, text}
use Rattle.definitions.specs.Cohort.{Site}
use Rattle.definitions.specs.Limits.{max_site_letters}
use Rattle.definitions.specs.Lists.{any_of, numbers_from}
use Rattle.laws.proofs.AllelesAsRead.{allele_as_read, as_read_spelled, ref_alts_as_read}
use Rattle.laws.proofs.Every.{Every, every_map, every_member, every_of_map_back, every_passed}
use Rattle.laws.proofs.Fields.{Free}
use Rattle.laws.proofs.Members.{numbers_member}
use Rattle.laws.proofs.SoundInput.{SoundSite}
use Rattle.laws.proofs.SoundValues.{Letters, SoundAllele}
use Rattle.laws.proofs.Tests.{told_apart}
use Rattle.tables.specs.Tables.{SiteRows, part_at, site_at}
use Rattle.merged_alleles.specs.SoundSites.{ShortFields, SoundRow, SoundSites}

short_allele : (a : Allele) → SoundAllele max_site_letters a → length (spelled a) ≤ max_site_letters
unfolding spelled text
short_allele (letters t) h = h.not_too_long
short_allele span_del h = omega arith
short_allele non_ref h = omega arith

-- letters in either case have no comma
no_comma : (most : ℕ) (ref : List ℕ) → Letters most (map capital ref) → Free comma ref
unfolding is_letter capital any_of text comma
no_comma most ref l = every_map (λ b h. told_apart (λ c. is_letter (capital c)) h refl)
    (every_of_map_back capital ref (every_passed is_letter (map capital ref) l.all_letters))

module _ (s rows : List ℕ) where
  short_alts : (site : ℕ) → SoundSite (site_at s rows site) → ShortFields (part_at 11 12 s rows site)
  unfolding site_at ref_alts_as_read
  short_alts site h = every_map
      (λ f k. rw (as_read_spelled f, length-map f capital) at (short_allele (allele_as_read f) k))
      (every_of_map_back allele_as_read (fields_of comma (part_at 11 12 s rows site)) h.alleles.alts)

  module _ {sites : List Site} (table : SiteRows s rows sites) (sound : Every SoundSite sites) where
    row_sound : (site : ℕ) → site < length sites → SoundRow s rows site
    row_sound site below =
        let all : Every (λ i. SoundSite (site_at s rows i)) (numbers_from 0 (length sites)) =
        every_of_map_back (site_at s rows) (numbers_from 0 (length sites)) (subst (Every SoundSite) table.read sound) in
        record {
          short = short_alts site (every_member (numbers_member 0 (length sites) (omega arith) (omega arith)) all);
          block = table.blocks site below;
        }

    pub found_sound : {found ref : List ℕ} → Every (λ site. site < length sites) found → Letters max_site_letters (map capital ref)
        → SoundSites s rows found ref
    found_sound {ref = ref} below l = record {
      sites = every_map row_sound below;
      reference = record { short = rw (length-map ref capital) at l.not_too_long; free = no_comma max_site_letters ref l };
    }
