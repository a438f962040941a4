-- Rows 2 to 8 of a site group, one after the other.
use Prim.Native.Nat.{◌+◌, ◌-◌, ◌<◌, ◌≤◌, suc, ℕ}
use borrow.Author.Tests.{eq-eqb, eqb-true, le-leb, le-ltb, lt-leb, lt-ltb, ne_eqb}
use lib.Dec.{eqb, leb, ltb}
use lib.ListN.{length, length-map}
use mathlib.Core.Bool.{Bool, ◌&&◌, ◌||◌, cond, false, true}
use mathlib.Core.List.{List, []}
use mathlib.Core.Option.{Option, get_or, none, some}
use mathlib.Core.Path.{◌∙◌, ◌≡◌, ap, refl, sym}
use native.Mathlib.Omega.{arith}
use Rattle.std.specs.Prelude as std
use Rattle.answers.specs.declared.Refusal.TheVariants as refusal
use Rattle.definitions.specs.Alleles.{RefAlts, capital, genotype_count, has_non_ref, is_block, only_non_ref, ref_alts_of}
use Rattle.definitions.specs.Bytes.{comma, fields_of}
use Rattle.definitions.specs.Checked.{accepted, or_refuse, refused}
use Rattle.definitions.specs.Cohort.{Site, SiteText, ad_fits, checked_site, end_fits, pl_fits}
use Rattle.definitions.specs.Limits.{max_site_alleles, max_site_letters, max_sites}
use Rattle.definitions.specs.Lists.{missing_or}
use Rattle.definitions.specs.Numbers.{number_list}
use Rattle.laws.proofs.Checked.{not_required, or_refused, required, then, then_refused}
use Rattle.laws.proofs.SoundValues.{Numbers, numbers_sound}
use Rattle.laws.proofs.Tests.{bool_ext}
use Rattle.laws.proofs.AllelesAsRead.{allele_as_read, ref_alts_as_read}
use Rattle.alleles.specs.Alleles.{AllelesRight}
use Rattle.site_groups.specs.SiteGroups.{Counted, SiteChecked, bytes_of, numbers_of, site_text_at}
use Rattle.site_groups.specs.declared.SiteAlleles.{SiteAlleles}
use Rattle.site_groups.specs.declared.SitePlace.{SitePlace}
use Rattle.site_groups.specs.declared.SiteValues.{SiteValues}

-- ---- the rows

-- the site of a text with these alleles
abbrev pub with_alleles : SiteText → RefAlts → Site
with_alleles t r = record {
  sample = t.sample;
  contig = t.contig;
  start = t.start;
  end = t.end;
  alleles = r;
  gq = t.gq;
  dp = t.dp;
  mindp = t.mindp;
  ad = t.ad;
  pl = t.pl;
}

module _ (samples before : ℕ) (t : SiteText) where
  pub row_2 : ltb before max_sites ≡ false → checked_site samples before t ≡ refused 2
  unfolding checked_site
  row_2 h = not_required _ _ _ h

  module _ (few : ltb before max_sites ≡ true) where
    pub row_3 : ltb t.sample samples ≡ false → checked_site samples before t ≡ refused 3
    unfolding checked_site
    row_3 h = required _ _ _ few (not_required _ _ _ h)

    module _ (known : ltb t.sample samples ≡ true) where
      pub row_4 : leb 1 t.start && leb t.start t.end ≡ false → checked_site samples before t ≡ refused 4
      unfolding checked_site
      row_4 h = required _ _ _ few (required _ _ _ known (not_required _ _ _ h))

      module _ (placed : leb 1 t.start && leb t.start t.end ≡ true) where
        pub row_5 : ref_alts_of max_site_letters max_site_alleles t.ref t.alt ≡ none → checked_site samples before t ≡ refused 5
        unfolding checked_site or_refuse
        row_5 h = required _ _ _ few (required _ _ _ known (required _ _ _ placed (then_refused _ _ (rw h))))

        module _ (r : RefAlts) (read : ref_alts_of max_site_letters max_site_alleles t.ref t.alt ≡ some r) where
          pub row_6 : has_non_ref r ≡ false → checked_site samples before t ≡ refused 6
          unfolding checked_site
          row_6 h = required _ _ _ few (required _ _ _ known (required _ _ _ placed (then _ _ (or_refused 5 _ read) (not_required _ _ _ h))))

          module _ (has : has_non_ref r ≡ true) where
            pub row_7 : end_fits r t.start t.end ≡ false → checked_site samples before t ≡ refused 7
            unfolding checked_site
            row_7 h = required _ _ _ few (required _ _ _ known (required _ _ _ placed (then _ _ (or_refused 5 _ read)
                (required _ _ _ has (not_required _ _ _ h)))))

            module _ (ends : end_fits r t.start t.end ≡ true) where
              pub row_8 : missing_or (pl_fits r) t.pl && missing_or (ad_fits r) t.ad ≡ false → checked_site samples before t ≡ refused 8
              unfolding checked_site
              row_8 h = required _ _ _ few (required _ _ _ known (required _ _ _ placed (then _ _ (or_refused 5 _ read)
                  (required _ _ _ has (required _ _ _ ends (not_required _ _ _ h))))))

              pub all_right : missing_or (pl_fits r) t.pl && missing_or (ad_fits r) t.ad ≡ true
                  → checked_site samples before t ≡ accepted (with_alleles t r)
              unfolding checked_site
              all_right h = required _ _ _ few (required _ _ _ known (required _ _ _ placed (then _ _ (or_refused 5 _ read)
                  (required _ _ _ has (required _ _ _ ends (required _ _ _ h refl))))))

-- ---- rows 7 and 8 by numbers

and_true : (b : Bool) → b && true ≡ b
and_true true = refl
and_true false = refl

-- as many letters as positions
spans : (start end letters : ℕ) → start ≤ end → eqb (suc end) (start + letters) ≡ eqb letters (end - start + 1)
spans start end letters h = bool_ext _ _
    (λ e. let k = eqb-true (suc end) (start + letters) e in eq-eqb letters (end - start + 1) (omega arith))
    (λ e. let k = eqb-true letters (end - start + 1) e in eq-eqb (suc end) (start + letters) (omega arith))

module _ (ref alt : List ℕ) (n : ℕ) (number : n ≡ suc (length (fields_of comma alt))) where
  abbrev alleles : RefAlts
  alleles = ref_alts_as_read ref (fields_of comma alt)

  count : length alleles.alts ≡ n - 1
  unfolding ref_alts_as_read
  count = length-map (fields_of comma alt) allele_as_read ∙ omega arith

  module _ (has : has_non_ref alleles ≡ true) where
    only : only_non_ref alleles ≡ eqb n 2
    unfolding only_non_ref
    only = rw (has, count, and_true (eqb (n - 1) 1)) (bool_ext _ _
        (λ e. let k = eqb-true (n - 1) 1 e in eq-eqb n 2 (omega arith))
        (λ e. let k = eqb-true n 2 e in eq-eqb (n - 1) 1 (omega arith)))

    block_by : is_block alleles ≡ (eqb n 2 && eqb (length ref) 1)
    unfolding is_block ref_alts_as_read
    block_by = rw (length-map ref capital) (ap (λ (b : Bool). b && eqb (length ref) 1) only)

    pub end_by : (start end : ℕ) → start ≤ end
        → end_fits alleles start end ≡ cond (eqb n 2) (eqb (length ref) 1) (eqb (length ref) (end - start + 1))
    unfolding end_fits ref_alts_as_read
    end_by start end h = rw (length-map ref capital, only, block_by, spans start end (length ref) h) (pick (eqb n 2) (eqb (length ref) 1) (eqb (length ref) (end - start + 1)))
      where
        pick : (b l p : Bool) → cond b (b && l) p ≡ cond b l p
        pick true l p = refl
        pick false l p = refl

    -- a site that ends as it should is a block if it has two alleles
    pub two_is_block : (positions : Bool) → cond (eqb n 2) (eqb (length ref) 1) positions ≡ true → eqb n 2 ≡ is_block alleles
    two_is_block positions h = rw block_by (go (eqb n 2) (eqb (length ref) 1) h)
      where
        go : (b l : Bool) → cond b l positions ≡ true → b ≡ (b && l)
        go true l e = sym e
        go false l e = refl

  -- a list that is there has numbers, so that none is a missing one
  pub pl_by : (t : List ℕ) (c : ℕ) → c ≡ length (get_or (number_list t) [])
      → missing_or (pl_fits alleles) (number_list t) ≡ (eqb c 0 || eqb c (genotype_count n))
  unfolding pl_fits missing_or
  pl_by t c h = go (number_list t) (numbers_sound t) h
    where
      all : suc (length alleles.alts) ≡ n
      all = omega (arith, count)

      go : (o : Option (List ℕ)) → ((ns : List ℕ) → o ≡ some ns → Numbers ns) → c ≡ length (get_or o [])
          → missing_or (pl_fits alleles) o ≡ (eqb c 0 || eqb c (genotype_count n))
      go none sound e = rw e
      go (some ns) sound e =
          let k = (sound ns refl).some_number in
          rw (all, ← e, ne_eqb c 0 (λ z. absurd (omega arith)))

  pub ad_by : (t : List ℕ) (c : ℕ) → c ≡ length (get_or (number_list t) []) → missing_or (ad_fits alleles) (number_list t) ≡ leb c n
  unfolding ad_fits missing_or
  ad_by t c h = go (number_list t) (numbers_sound t) h
    where
      all : suc (length alleles.alts) ≡ n
      all = omega (arith, count)

      go : (o : Option (List ℕ)) → ((ns : List ℕ) → o ≡ some ns → Numbers ns) → c ≡ length (get_or o [])
          → missing_or (ad_fits alleles) o ≡ leb c n
      go none sound e = sym (le-leb c n (omega arith))
      go (some ns) sound e =
          let k = (sound ns refl).some_number in
          rw (all, ← e, le-leb 1 c (omega arith))

-- ---- the tests of the code, one after the other

module _ (s : List ℕ) (p : SitePlace) (a : SiteAlleles) (v : SiteValues) (samples before : ℕ) where
  abbrev text : SiteText
  text = site_text_at s p a v

  pub too_many : 4096 ≤ before → SiteChecked s p a v samples before (std.Err refusal.Size)
  unfolding SiteChecked
  too_many h ad pl = row_2 samples before text (le-ltb before 4096 h)

  module _ (few : before < 4096) where
    pub no_sample : samples ≤ p.sample.0 → SiteChecked s p a v samples before (std.Err refusal.Sample)
    unfolding SiteChecked
    no_sample h ad pl = row_3 samples before text (lt-ltb before 4096 few) (le-ltb p.sample.0 samples h)

    module _ (known : p.sample.0 < samples) where
      pub position_0 : p.start.0 < 1 → SiteChecked s p a v samples before (std.Err refusal.Position)
      unfolding SiteChecked
      position_0 h ad pl = row_4 samples before text (lt-ltb before 4096 few) (lt-ltb p.sample.0 samples known) (rw (lt-leb 1 p.start.0 h))

      module _ (placed : 1 ≤ p.start.0) where
        pub end_before : p.end.0 < p.start.0 → SiteChecked s p a v samples before (std.Err refusal.Position)
        unfolding SiteChecked
        end_before h ad pl = row_4 samples before text (lt-ltb before 4096 few) (lt-ltb p.sample.0 samples known)
            (rw (le-leb 1 p.start.0 placed, lt-leb p.start.0 p.end.0 h))

        module _ (ordered : p.start.0 ≤ p.end.0) where
          in_place_lem : leb 1 p.start.0 && leb p.start.0 p.end.0 ≡ true
          in_place_lem = rw (le-leb 1 p.start.0 placed, le-leb p.start.0 p.end.0 ordered)

          pub allele_faulty : ref_alts_of 128 8 (bytes_of s a.refs) (bytes_of s a.alts) ≡ none
              → SiteChecked s p a v samples before (std.Err refusal.Alleles)
          unfolding SiteChecked
          allele_faulty h ad pl = row_5 samples before text (lt-ltb before 4096 few) (lt-ltb p.sample.0 samples known) in_place_lem h

          module _ (n : ℕ) (has : Bool) (right : AllelesRight 128 8 (bytes_of s a.refs) (bytes_of s a.alts) n has) where
            pub no_non_ref : has ≡ false → SiteChecked s p a v samples before (std.Err refusal.NonRefAbsent)
            unfolding SiteChecked
            no_non_ref h ad pl = row_6 samples before text (lt-ltb before 4096 few) (lt-ltb p.sample.0 samples known) in_place_lem _ right.right
                (sym right.has ∙ h)

            module _ (there : has ≡ true) where
              has_it : has_non_ref (ref_alts_as_read (bytes_of s a.refs) (fields_of comma (bytes_of s a.alts))) ≡ true
              has_it = sym right.has ∙ there

              abbrev fits : Bool
              fits = cond (eqb n 2) (eqb (length (bytes_of s a.refs)) 1) (eqb (length (bytes_of s a.refs)) (p.end.0 - p.start.0 + 1))

              ends : end_fits (ref_alts_as_read (bytes_of s a.refs) (fields_of comma (bytes_of s a.alts))) p.start.0 p.end.0 ≡ fits
              ends = end_by _ _ n right.number has_it p.start.0 p.end.0 ordered

              pub end_wrong : fits ≡ false → SiteChecked s p a v samples before (std.Err refusal.End)
              unfolding SiteChecked
              end_wrong h ad pl = row_7 samples before text (lt-ltb before 4096 few) (lt-ltb p.sample.0 samples known) in_place_lem _ right.right
                  has_it (ends ∙ h)

              module _ (fitting : fits ≡ true) where
                abbrev counts : Bool
                counts = (eqb v.pl.count 0 || eqb v.pl.count (genotype_count n)) && leb v.ad.count n

                counted : Counted s v.ad → Counted s v.pl
                    → (missing_or (pl_fits (ref_alts_as_read (bytes_of s a.refs) (fields_of comma (bytes_of s a.alts)))) (numbers_of s v.pl)
                    && missing_or (ad_fits (ref_alts_as_read (bytes_of s a.refs) (fields_of comma (bytes_of s a.alts)))) (numbers_of s v.ad)) ≡ counts
                counted ad pl = rw (pl_by (bytes_of s a.refs) _ n right.number _ _ pl, ad_by (bytes_of s a.refs) _ n right.number _ _ ad)

                pub counts_wrong : counts ≡ false → SiteChecked s p a v samples before (std.Err refusal.Counts)
                unfolding SiteChecked
                counts_wrong h ad pl = row_8 samples before text (lt-ltb before 4096 few) (lt-ltb p.sample.0 samples known) in_place_lem _
                    right.right has_it (ends ∙ fitting) (counted ad pl ∙ h)

                pub site_right : counts ≡ true → SiteChecked s p a v samples before (std.Ok (eqb n 2))
                unfolding SiteChecked
                site_right h ad pl = record {
                  value = all_right samples before text (lt-ltb before 4096 few) (lt-ltb p.sample.0 samples known) in_place_lem _
                      right.right has_it (ends ∙ fitting) (counted ad pl ∙ h);
                  is_block_lem = two_is_block _ _ n right.number has_it _ fitting;
                }
