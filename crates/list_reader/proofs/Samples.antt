-- The loop over the samples of a record group: what all say is what those say that are left, behind those in the table.
use Prim.Native.Nat.{◌*◌, ◌+◌, ◌-◌, ◌<◌, ◌≤◌, suc, ℕ}
use borrow.Author.Tests.{le-ltb, lt-ltb, ne_eqb}
use lib.Dec.{eqb, ltb}
use lib.ListN.{drop, length, length-map}
use lib.Seq.{sets}
use mathlib.Core.Bool.{Bool, ◌&&◌, ◌||◌, false, true}
use mathlib.Core.List.{List, [], ◌++◌, ◌∷◌, append_assoc, append-nil, map, map-append, map-map}
use mathlib.Core.Option.{Option, get_or, none, some}
use mathlib.Core.Path.{◌∙◌, ◌≡◌, ap, refl, sym}
use native.Mathlib.Nat.{sub-zero}
use native.Mathlib.Numerals.{add-one}
use native.Mathlib.Omega.{arith}
use Rattle.std.specs.Prelude as std
use Rattle.cohort.proofs.Rows.{rest_more, sites_more}
use Rattle.cohort.specs.Cohort.{row_of, sites_in}
use Rattle.definitions.specs.Alleles.{genotype_count}
use Rattle.definitions.specs.Bytes.{comma, fields_of}
use Rattle.definitions.specs.Checked.{Checked, ◌>>=◌, accepted, in_order, refused}
use Rattle.definitions.specs.Cohort.{Site}
use Rattle.definitions.specs.Genotypes.{AllelePair, SampleData}
use Rattle.definitions.specs.ListReader.{counts_fit, record_read, sample_data_read}
use Rattle.definitions.specs.Lists.{all_of, any_of, is_there, missing_or, numbers_from}
use Rattle.definitions.specs.Numbers.{number_list}
use Rattle.kv_text.specs.Lines.{Behind}
use Rattle.laws.proofs.Checked.{then, then_refused}
use Rattle.laws.proofs.SoundValues.{Numbers, numbers_sound}
use Rattle.site_groups.proofs.SiteChecks.{pl_by}
use Rattle.site_groups.specs.SiteGroups.{Counted, bytes_of, site_from}
use Rattle.site_groups.specs.declared.SiteAlleles.{SiteAlleles}
use Rattle.site_groups.specs.declared.SitePlace.{SitePlace}
use Rattle.site_groups.specs.declared.SiteValues.{SiteValues}
use Rattle.laws.proofs.AllelesAsRead.{allele_as_read, ref_alts_as_read}
use Rattle.tables.specs.Tables.{site_at}
use Rattle.list_reader.proofs.RecordLines.{unless_1}
use Rattle.list_reader.specs.RecordGroups.{HeadTo, Misspelled, SampleRead, SampleTo, TextTo, alts_at, group_lines, record_group, right_counts, sample_at, sample_from, without_gt}
use Rattle.list_reader.specs.declared.RecordHead.{RecordHead}

-- ---- answers in order

module _ {A : Type 0} (f : ℕ → Checked A) where
  -- those of n numbers from i on, behind values
  abbrev pub After : List A → ℕ → ℕ → Checked (List A)
  After vs i n = in_order (map f (numbers_from i n)) >>= λ later. accepted (vs ++ later)

  pub after_start : (n : ℕ) → in_order (map f (numbers_from 0 n)) ≡ After [] 0 n
  after_start n = go (in_order (map f (numbers_from 0 n)))
    where
      go : (c : Checked (List A)) → c ≡ (c >>= λ later. accepted ([] ++ later))
      go (refused k) = unfold ◌>>=◌ in refl
      go (accepted l) = unfold ◌>>=◌ in refl

  pub after_refused : (vs : List A) (i n : ℕ) {k : ℕ} → f i ≡ refused k → After vs i (suc n) ≡ refused k
  unfolding in_order numbers_from ◌>>=◌
  after_refused vs i n e = rw e

  pub after_next : (vs : List A) (i n : ℕ) {a : A} → f i ≡ accepted a → After vs i (suc n) ≡ After (vs ++ (a ∷ [])) (suc i) n
  unfolding in_order numbers_from ◌>>=◌
  after_next vs i n {a} e = rw e (go (in_order (map f (numbers_from (suc i) n))))
    where
      go : (c : Checked (List A)) → ((c >>= λ later. accepted (a ∷ later)) >>= λ later. accepted (vs ++ later))
          ≡ (c >>= λ later. accepted ((vs ++ (a ∷ [])) ++ later))
      go (refused k) = refl
      go (accepted l) = rw (append_assoc vs (a ∷ []) l)

  pub after_end : (vs : List A) (i : ℕ) → After vs i 0 ≡ accepted vs
  unfolding in_order numbers_from ◌>>=◌
  after_end vs i = simp append-nil

-- ---- one more

module _ {A : Type 0} (p : A → Bool) where
  any_more : (l : List A) (x : A) → any_of p (l ++ (x ∷ [])) ≡ (any_of p l || p x)
  unfolding any_of
  any_more [] x = go (p x)
    where
      go : (b : Bool) → (b || false) ≡ b
      go true = refl
      go false = refl
  any_more (y ∷ l) x = rw (any_more l x) (go (p y))
    where
      go : (b : Bool) → (b || (any_of p l || p x)) ≡ ((b || any_of p l) || p x)
      go true = refl
      go false = refl

  pub all_more : (l : List A) (x : A) → all_of p (l ++ (x ∷ [])) ≡ (all_of p l && p x)
  unfolding all_of
  all_more [] x = go (p x)
    where
      go : (b : Bool) → (b && true) ≡ b
      go true = refl
      go false = refl
  all_more (y ∷ l) x = rw (all_more l x) (go (p y))
    where
      go : (b : Bool) → (b && (all_of p l && p x)) ≡ ((b && all_of p l) && p x)
      go true = refl
      go false = refl

-- ---- the numbers of a sample's lists

-- PL is there if it has numbers
pl_there : (t : List ℕ) (c : ℕ) → c ≡ length (get_or (number_list t) []) → is_there (number_list t) ≡ ltb 0 c
unfolding is_there
pl_there t c h = go (number_list t) (numbers_sound t) h
  where
    go : (o : Option (List ℕ)) → ((ns : List ℕ) → o ≡ some ns → Numbers ns) → c ≡ length (get_or o []) → is_there o ≡ ltb 0 c
    go none sound e = sym (le-ltb 0 c (omega arith))
    go (some ns) sound e = let k = (sound ns refl).some_number in sym (lt-ltb 0 c (omega arith))

-- AD has as many numbers as there are alleles
pub ad_by : (ref alt t : List ℕ) (c : ℕ) → c ≡ length (get_or (number_list t) [])
    → missing_or (λ ad. eqb (length ad) (suc (length (ref_alts_as_read ref (fields_of comma alt)).alts))) (number_list t)
    ≡ (eqb c 0 || eqb c (suc (length (fields_of comma alt))))
unfolding missing_or ref_alts_as_read
ad_by ref alt t c h = rw (length-map (fields_of comma alt) allele_as_read) (go (number_list t) (numbers_sound t) h)
  where
    go : (o : Option (List ℕ)) → ((ns : List ℕ) → o ≡ some ns → Numbers ns) → c ≡ length (get_or o [])
        → missing_or (λ ad. eqb (length ad) (suc (length (fields_of comma alt)))) o ≡ (eqb c 0 || eqb c (suc (length (fields_of comma alt))))
    go none sound e = rw e
    go (some ns) sound e =
        let k = (sound ns refl).some_number in
        rw (← e, ne_eqb c 0 (λ z. absurd (omega arith)))

-- row 8 by the numbers of ALTs and of the lists' numbers
abbrev counts_by : ℕ → SiteValues → Bool
counts_by alts v =
    ltb alts 16 && ((eqb v.pl.count 0 || eqb v.pl.count (genotype_count (suc alts))) && (eqb v.ad.count 0 || eqb v.ad.count (suc alts)))

counts_by_lem : (s : List ℕ) (a : SiteAlleles) (g : Option AllelePair) (v : SiteValues) → Counted s v.ad → Counted s v.pl
    → right_counts s a (sample_from s g v) ≡ counts_by (alts_at s a) v
unfolding right_counts counts_fit
counts_by_lem s a g v ad pl = rw (pl_by (bytes_of s a.refs) (bytes_of s a.alts) _ refl _ _ pl, ad_by (bytes_of s a.refs) (bytes_of s a.alts) _ _ ad)

-- ---- the table

-- what a row of the table says of a sample
abbrev site_sample : Site → SampleData
site_sample x = record { gt = none; gq = x.gq; dp = x.dp; mindp = x.mindp; ad = x.ad; pl = x.pl }

in_table : (s rows : List ℕ) (n : ℕ) → map site_sample (sites_in s rows n) ≡ map (sample_at s rows) (numbers_from 0 n)
unfolding sites_in site_at sample_at
in_table s rows n = map-map site_sample (site_at s rows) (numbers_from 0 n)

-- ---- the loop

module _ (s : List ℕ) (at samples : ℕ) (rows₀ : List ℕ) (h : RecordHead) where
  abbrev sample_read : ℕ → Checked SampleData
  sample_read = sample_data_read (record_group s at samples) (suc (alts_at s h.alleles))

  pub record Reading (rows : List ℕ) (next : ℕ) (has_pl fit : Bool) (i : ℕ) : Type 0 where
    pub sample_data : List SampleData
    pub whole : in_order (map sample_read (numbers_from 0 samples)) ≡ After sample_read sample_data i (samples - i)
    pub table : map without_gt sample_data ≡ map site_sample (sites_in s rows i)
    pub rest : drop (i * 22) rows ≡ drop (i * 22) rows₀
    pub some_pl : has_pl ≡ any_of (λ (v : SampleData). is_there v.pl) sample_data
    pub right : fit ≡ all_of (right_counts s h.alleles) sample_data
    pub long : length rows ≡ length rows₀
    pub few : i ≤ samples
    pub behind : Behind s at (group_lines i) next
    pub forward : at < next
    pub within : next ≤ length s

  pub reading_start : HeadTo s at h → Reading rows₀ h.alleles.next false true 0
  unfolding sites_in numbers_from any_of all_of
  reading_start head = record {
    sample_data = [];
    whole = rw (sub-zero samples) (after_start sample_read samples);
    table = refl;
    rest = refl;
    some_pl = refl;
    right = refl;
    long = refl;
    few = omega arith;
    behind = head.behind;
    forward = head.forward;
    within = head.within;
  }

  module _ (rows : List ℕ) (next : ℕ) (has_pl fit : Bool) (i : ℕ) (inv : Reading rows next has_pl fit i) where
    module _ (more : i < samples) (alts : ℕ) (count : alts ≡ alts_at s h.alleles) where
      one_less : samples - i ≡ suc (samples - (i + 1))
      one_less = omega arith

      pub sample_wrong : HeadTo s at h → SampleRead s next alts std.None → Misspelled s at samples
      unfolding SampleRead record_read
      sample_wrong head w records before =
          let l = head.lines samples in
          unless_1 _ _ (then _ _ l.contig (then _ _ l.pos (then _ _ l.end (then _ _ l.ref (then _ _ l.alt (then_refused _ _
          (inv.whole ∙ rw one_less (after_refused sample_read inv.sample_data i (samples - (i + 1)) (rw count at (w at samples i more inv.behind))))))))))

      module _ (v : SiteValues) (to : SampleTo s next alts v) (room : samples * 22 ≤ length rows₀) where
        read : sample_read i ≡ accepted (sample_from s to.gt v)
        read = rw count at (to.lines at samples i more inv.behind).value

        -- nothing is said of the place in a sample's row
        pub sample_next : (p : SitePlace) (after : List ℕ) → length after ≡ length rows → after ≡ sets rows (i * 22) (row_of p 0 h.alleles v false)
            → (has' fit' : Bool) → has' ≡ (has_pl || ltb 0 v.pl.count) → fit' ≡ (fit && counts_by alts v)
            → Reading after v.next has' fit' (i + 1)
        unfolding without_gt
        sample_next p after same e has' fit' e₁ e₂ =
            let fits : i * 22 + 22 ≤ length rows = omega (arith, inv.long) in
            record {
              sample_data = inv.sample_data ++ (sample_from s to.gt v ∷ []);
              whole =
                  inv.whole ∙ ap (After sample_read inv.sample_data i) one_less ∙ after_next sample_read inv.sample_data i (samples - (i + 1)) read
                  ∙ ap (λ (k : ℕ). After sample_read (inv.sample_data ++ (sample_from s to.gt v ∷ [])) k (samples - (i + 1))) (sym (add-one i));
              table =
                  map-append without_gt inv.sample_data (sample_from s to.gt v ∷ [])
                  ∙ ap (λ (l : List SampleData). l ++ (without_gt (sample_from s to.gt v) ∷ [])) inv.table
                  ∙ sym (map-append site_sample (sites_in s rows i) (site_from s p h.alleles v ∷ []))
                  ∙ rw (e, sites_more s rows i p 0 h.alleles v false fits to.small);
              rest = rw e (rest_more rows (row_of p 0 h.alleles v false) i refl fits rows₀ inv.rest);
              some_pl =
                  e₁ ∙ rw (any_more (λ (w : SampleData). is_there w.pl) inv.sample_data (sample_from s to.gt v), ← inv.some_pl, pl_there _ _ to.pl_count);
              right =
                  e₂ ∙ rw (
                    all_more (right_counts s h.alleles) inv.sample_data (sample_from s to.gt v),
                    ← inv.right,
                    counts_by_lem s h.alleles to.gt v to.ad_count to.pl_count,
                    count,
                  );
              long = same ∙ inv.long;
              few = omega arith;
              behind = rw (add-one i) (to.lines at samples i more inv.behind).behind;
              forward = omega (arith, inv.forward, to.forward);
              within = to.within;
            }

    pub samples_end : HeadTo s at h → samples ≤ i → TextTo s at samples rows₀ rows h (record { has_pl = has_pl; fit = fit; next = next })
    samples_end head past =
        let all : i ≡ samples = omega (arith, inv.few) in
        let none_left : samples - i ≡ 0 = omega arith in
        record {
          sample_data = inv.sample_data;
          lines = record { first = head.lines samples; later = inv.whole ∙ rw none_left (after_end sample_read inv.sample_data i) };
          table = inv.table ∙ rw all (in_table s rows samples);
          rest = rw (← all) inv.rest;
          has_pl = inv.some_pl;
          fit = inv.right;
          behind = rw (← all) inv.behind;
          forward = inv.forward;
          within = inv.within;
        }
