-- The loop over the samples of a called record group: what all say is what those say that are left, behind those in the table.
use Prim.Native.Nat.{◌*◌, ◌+◌, ◌-◌, ◌<◌, ◌≤◌, suc, ℕ}
use lib.Dec.{eqb, ltb}
use lib.ListN.{drop, length, length-set, set}
use lib.Seq.{drop-set-lt}
use mathlib.Core.Bool.{Bool, ◌&&◌, ◌||◌, true}
use mathlib.Core.List.{List, [], ◌++◌, ◌∷◌, map, map-append, map-map, reverse, reverse-append, reverse-reverse}
use mathlib.Core.Option.{Option}
use mathlib.Core.Path.{◌∙◌, ◌≡◌, ap, refl, sym}
use native.Mathlib.Nat.{sub-zero}
use native.Mathlib.Numerals.{add-one}
use native.Mathlib.Omega.{arith}
use Rattle.std.specs.Prelude as std
use Rattle.definitions.specs.Alleles.{genotype_count}
use Rattle.definitions.specs.Checked.{Checked, accepted, in_order}
use Rattle.definitions.specs.Genotypes.{SampleData}
use Rattle.definitions.specs.ListReader.{counts_fit}
use Rattle.definitions.specs.Lists.{all_of, numbers_from}
use Rattle.definitions.specs.Numbers.{number_list}
use Rattle.definitions.specs.SelectionSheet.{called_data_read, called_record_read}
use Rattle.kv_text.specs.Fields.{between}
use Rattle.kv_text.specs.Lines.{Behind}
use Rattle.laws.proofs.Checked.{then, then_refused}
use Rattle.list_reader.proofs.RecordLines.{unless_1}
use Rattle.list_reader.proofs.Samples.{After, ad_by, after_end, after_next, after_refused, after_start, all_more}
use Rattle.list_reader.specs.RecordGroups.{alts_at, right_counts}
use Rattle.sample_names.proofs.Names.{names_reversed, stored}
use Rattle.site_groups.proofs.SiteChecks.{pl_by}
use Rattle.site_groups.specs.SiteGroups.{Counted, bytes_of}
use Rattle.site_groups.specs.declared.SiteAlleles.{SiteAlleles}
use Rattle.tables.specs.Tables.{name_at, names_in}
use Rattle.called_reader.specs.CalledGroups.{HeadTo, Misspelled, SampleRead, SampleTo, TextTo, group_lines, pl_at, record_group, sample_from}
use Rattle.called_reader.specs.declared.CalledHead.{CalledHead}
use Rattle.called_reader.specs.declared.CalledValues.{CalledValues}

-- ---- the numbers of a sample's lists

-- row 8 by the numbers of ALTs and of the lists' numbers
abbrev counts_by : ℕ → CalledValues → Bool
counts_by alts v =
    ltb alts 16 && ((eqb v.pl.count 0 || eqb v.pl.count (genotype_count (suc alts))) && (eqb v.ad.count 0 || eqb v.ad.count (suc alts)))

counts_by_lem : (s : List ℕ) (a : SiteAlleles) (gq dp : Option ℕ) (v : CalledValues) → Counted s v.ad → Counted s v.pl
    → right_counts s a (sample_from s gq dp v) ≡ counts_by (alts_at s a) v
unfolding right_counts counts_fit
counts_by_lem s a gq dp v ad pl = rw (pl_by (bytes_of s a.refs) (bytes_of s a.alts) _ refl _ _ pl, ad_by (bytes_of s a.refs) (bytes_of s a.alts) _ _ ad)

-- ---- the table

-- the PLs of the first samples
abbrev pls_in : List ℕ → List ℕ → ℕ → List (Option (List ℕ))
pls_in s pls n = map number_list (names_in s pls n)

in_table : (s pls : List ℕ) (n : ℕ) → pls_in s pls n ≡ map (pl_at s pls) (numbers_from 0 n)
unfolding names_in pl_at
in_table s pls n = map-map number_list (name_at s pls) (numbers_from 0 n)

pls_next : (s pls : List ℕ) (i a e : ℕ) → 2 * i + 1 < length pls
    → pls_in s (stored pls i a e) (i + 1) ≡ pls_in s pls i ++ (number_list (between s a e) ∷ [])
pls_next s pls i a e room =
    ap (map number_list) one ∙ map-append number_list (names_in s pls i) (between s a e ∷ [])
  where
    one : names_in s (stored pls i a e) (i + 1) ≡ names_in s pls i ++ (between s a e ∷ [])
    one = sym (reverse-reverse (names_in s (stored pls i a e) (i + 1)))
        ∙ ap reverse (names_reversed s pls i a e room ∙ sym (reverse-append (names_in s pls i) (between s a e ∷ [])))
        ∙ reverse-reverse (names_in s pls i ++ (between s a e ∷ []))

-- ---- the loop

abbrev pl_of : SampleData → Option (List ℕ)
pl_of v = v.pl

module _ (s : List ℕ) (at samples : ℕ) (pls₀ : List ℕ) (h : CalledHead) where
  abbrev sample_read : ℕ → Checked SampleData
  sample_read = called_data_read (record_group s at samples)

  pub record Reading (pls : List ℕ) (next : ℕ) (fit : Bool) (i : ℕ) : Type 0 where
    pub sample_data : List SampleData
    pub whole : in_order (map sample_read (numbers_from 0 samples)) ≡ After sample_read sample_data i (samples - i)
    pub table : map pl_of sample_data ≡ pls_in s pls i
    pub rest : drop (2 * samples) pls ≡ drop (2 * samples) pls₀
    pub right : fit ≡ all_of (right_counts s h.alleles) sample_data
    pub long : length pls ≡ length pls₀
    pub few : i ≤ samples
    pub behind : Behind s at (group_lines i) next
    pub forward : at < next
    pub within : next ≤ length s

  pub reading_start : HeadTo s at h → Reading pls₀ h.alleles.next true 0
  unfolding names_in numbers_from all_of
  reading_start head = record {
    sample_data = [];
    whole = rw (sub-zero samples) (after_start sample_read samples);
    table = refl;
    rest = refl;
    right = refl;
    long = refl;
    few = omega arith;
    behind = head.behind;
    forward = head.forward;
    within = head.within;
  }

  module _ (pls : List ℕ) (next : ℕ) (fit : Bool) (i : ℕ) (inv : Reading pls next fit i) where
    module _ (more : i < samples) where
      one_less : samples - i ≡ suc (samples - (i + 1))
      one_less = omega arith

      pub sample_wrong : HeadTo s at h → SampleRead s next std.None → Misspelled s at samples
      unfolding SampleRead called_record_read
      sample_wrong head w records before =
          let l = head.lines samples in
          unless_1 _ _ (then _ _ l.contig (then _ _ l.pos (then _ _ l.ref (then _ _ l.alt (then_refused _ _
          (inv.whole ∙ rw one_less (after_refused sample_read inv.sample_data i (samples - (i + 1)) (w at samples i more inv.behind))))))))

      module _ (v : CalledValues) (to : SampleTo s next v) (room : 2 * samples ≤ length pls₀) where
        abbrev data_here : SampleData
        data_here = sample_from s to.gq to.dp v

        read : sample_read i ≡ accepted data_here
        read = (to.lines at samples i more inv.behind).value

        pub sample_next : (alts : ℕ) → alts ≡ alts_at s h.alleles → (fit' : Bool) → fit' ≡ (fit && counts_by alts v)
            → Reading (stored pls i v.pl.at v.pl.end) v.next fit' (i + 1)
        sample_next alts count fit' e =
            let place : 2 * i + 1 < length pls = omega (arith, inv.long) in
            record {
              sample_data = inv.sample_data ++ (data_here ∷ []);
              whole =
                  inv.whole ∙ ap (After sample_read inv.sample_data i) one_less ∙ after_next sample_read inv.sample_data i (samples - (i + 1)) read
                  ∙ ap (λ (k : ℕ). After sample_read (inv.sample_data ++ (data_here ∷ [])) k (samples - (i + 1))) (sym (add-one i));
              table =
                  map-append pl_of inv.sample_data (data_here ∷ [])
                  ∙ ap (λ (l : List (Option (List ℕ))). l ++ (pl_of data_here ∷ [])) inv.table
                  ∙ sym (pls_next s pls i v.pl.at v.pl.end place);
              rest =
                  drop-set-lt (2 * samples) (set pls (2 * i) v.pl.at) (2 * i + 1) v.pl.end (omega arith)
                  ∙ drop-set-lt (2 * samples) pls (2 * i) v.pl.at (omega arith) ∙ inv.rest;
              right =
                  e ∙ rw (
                    all_more (right_counts s h.alleles) inv.sample_data data_here,
                    ← inv.right,
                    counts_by_lem s h.alleles to.gq to.dp v to.ad_count to.pl_count,
                    count,
                  );
              long = simp length-set inv.long;
              few = omega arith;
              behind = rw (add-one i) (to.lines at samples i more inv.behind).behind;
              forward = omega (arith, inv.forward, to.forward);
              within = to.within;
            }

    pub samples_end : HeadTo s at h → samples ≤ i → TextTo s at samples pls₀ pls h (record { fit = fit; next = next })
    samples_end head past =
        let all : i ≡ samples = omega (arith, inv.few) in
        let none_left : samples - i ≡ 0 = omega arith in
        record {
          sample_data = inv.sample_data;
          lines = record { first = head.lines samples; later = inv.whole ∙ rw none_left (after_end sample_read inv.sample_data i) };
          table = inv.table ∙ rw all (in_table s pls samples);
          rest = inv.rest;
          fit = inv.right;
          behind = rw (← all) inv.behind;
          forward = inv.forward;
          within = inv.within;
        }
