-- Rows 4, 5 and 8 of a called record group, one after the other.
use Prim.Native.Nat.{◌<◌, ◌≤◌, ℕ}
use borrow.Author.Tests.{le-leb, lt-leb, lt-ltb}
use lib.Dec.{leb}
use lib.ListN.{length}
use mathlib.Core.Bool.{Bool, ◌&&◌, false, true}
use mathlib.Core.List.{List}
use mathlib.Core.Option.{none, some}
use mathlib.Core.Path.{◌∙◌, ◌≡◌, refl, sym}
use native.Mathlib.Omega.{arith}
use Rattle.std.specs.Prelude as std
use Rattle.answers.specs.declared.Refusal.{Refusal}
use Rattle.answers.specs.declared.Refusal.TheVariants as refusal
use Rattle.alleles.specs.Alleles.{AllelesRight}
use Rattle.definitions.specs.Alleles.{ref_alts_of}
use Rattle.definitions.specs.Checked.{Checked, ◌>>=◌, ◌>>◌, accepted, or_refuse, refused, require}
use Rattle.definitions.specs.Genotypes.{SampleData}
use Rattle.definitions.specs.ListReader.{comes_after, counts_fit}
use Rattle.definitions.specs.Lists.{all_of}
use Rattle.definitions.specs.Records.{Record}
use Rattle.definitions.specs.SelectionSheet.{called_record_read}
use Rattle.laws.proofs.Checked.{not_required, or_refused, required, then, then_refused}
use Rattle.list_reader.proofs.RecordChecks.{all_same, came_after}
use Rattle.list_reader.specs.RecordGroups.{PreviousOf, alleles_at, alts_at, comes_after_last, right_counts}
use Rattle.list_reader.specs.declared.PreviousRecord.{PreviousRecord}
use Rattle.site_groups.specs.SiteGroups.{bytes_of}
use Rattle.called_reader.specs.CalledGroups.{Ready, RecordChecked, RecordFound, TextTo, record_from, record_group}
use Rattle.called_reader.specs.declared.CalledHead.{CalledHead}
use Rattle.called_reader.specs.declared.SamplesRead.{SamplesRead}

-- ---- the rows

module _ {s : List ℕ} {h : CalledHead} {last : std.Option PreviousRecord} {fit : Bool} {at samples records : ℕ} {before : List Record} {sample_data : List SampleData}
    (r : Ready s h last fit at samples records before sample_data) where
  abbrev answer : Checked Record
  answer = called_record_read samples records before (record_group s at samples)

  abbrev in_place : Bool
  in_place = leb 1 h.pos.0 && comes_after before (bytes_of s h.contig) h.pos.0

  -- what is left behind the lines
  abbrev checks : Checked Record
  checks = do
    require 4 in_place
    alleles ← or_refuse 5 (ref_alts_of 255 16 (bytes_of s h.alleles.refs) (bytes_of s h.alleles.alts))
    require 8 (all_of (counts_fit alleles) sample_data)
    accepted (record { contig = bytes_of s h.contig; pos = h.pos.0; end = none; alleles = alleles; sample_data = sample_data })

  past_lines : answer ≡ checks
  unfolding called_record_read
  past_lines = required _ _ _ (lt-ltb _ _ r.more) (then _ _ r.lines.first.contig (then _ _ r.lines.first.pos
      (then _ _ r.lines.first.ref (then _ _ r.lines.first.alt (then _ _ r.lines.later refl)))))

  row_4 : in_place ≡ false → answer ≡ refused 4
  row_4 f = past_lines ∙ not_required _ _ _ f

  module _ (placed : in_place ≡ true) where
    row_5 : ref_alts_of 255 16 (bytes_of s h.alleles.refs) (bytes_of s h.alleles.alts) ≡ none → answer ≡ refused 5
    unfolding or_refuse
    row_5 f = past_lines ∙ required _ _ _ placed (then_refused _ _ (rw f))

    module _ (right : ref_alts_of 255 16 (bytes_of s h.alleles.refs) (bytes_of s h.alleles.alts) ≡ some (alleles_at s h.alleles)) where
      row_8 : all_of (counts_fit (alleles_at s h.alleles)) sample_data ≡ false → answer ≡ refused 8
      row_8 f = past_lines ∙ required _ _ _ placed (then _ _ (or_refused 5 _ right) (not_required _ _ _ f))

      all_right : all_of (counts_fit (alleles_at s h.alleles)) sample_data ≡ true
          → answer ≡ accepted (record_from s h.contig h.pos h.alleles sample_data)
      all_right f = past_lines ∙ required _ _ _ placed (then _ _ (or_refused 5 _ right) (required _ _ _ f refl))

-- ---- the tests of the code, one after the other

module _ (s : List ℕ) (h : CalledHead) (last : std.Option PreviousRecord) (fit : Bool) where
  pub position_0 : h.pos.0 < 1 → RecordChecked s h last fit (std.Err refusal.Position)
  unfolding RecordChecked
  position_0 l at samples records before sample_data r = row_4 r (rw (lt-leb 1 h.pos.0 l))

  module _ (positive : 1 ≤ h.pos.0) where
    order : (b : Bool) → comes_after_last s last (bytes_of s h.contig) h.pos.0 ≡ b → {at samples records : ℕ} {before : List Record}
        {sample_data : List SampleData} → (r : Ready s h last fit at samples records before sample_data) → in_place r ≡ b
    order b f {before = before} r =
        rw (le-leb 1 h.pos.0 positive, came_after s before last (bytes_of s h.contig) h.pos.0 r.previous) f

    pub too_early : comes_after_last s last (bytes_of s h.contig) h.pos.0 ≡ false → RecordChecked s h last fit (std.Err refusal.Position)
    unfolding RecordChecked
    too_early f at samples records before sample_data r = row_4 r (order false f r)

    module _ (after : comes_after_last s last (bytes_of s h.contig) h.pos.0 ≡ true) where
      pub allele_faulty : ref_alts_of 255 16 (bytes_of s h.alleles.refs) (bytes_of s h.alleles.alts) ≡ none
          → RecordChecked s h last fit (std.Err refusal.Alleles)
      unfolding RecordChecked
      allele_faulty f at samples records before sample_data r = row_5 r (order true after r) f

      module _ (n : ℕ) (has : Bool) (right : AllelesRight 255 16 (bytes_of s h.alleles.refs) (bytes_of s h.alleles.alts) n has) where
        counts : (sample_data : List SampleData) → fit ≡ all_of (right_counts s h.alleles) sample_data
            → all_of (counts_fit (alleles_at s h.alleles)) sample_data ≡ fit
        counts sample_data e = sym (e ∙ all_same _ _ same sample_data)
          where
            same : (v : SampleData) → right_counts s h.alleles v ≡ counts_fit (alleles_at s h.alleles) v
            same v =
                let few : alts_at s h.alleles < 16 = omega (arith, right.number, right.few) in
                unfold right_counts in rw (lt-ltb (alts_at s h.alleles) 16 few)

        pub counts_wrong : fit ≡ false → RecordChecked s h last fit (std.Err refusal.Counts)
        unfolding RecordChecked
        counts_wrong f at samples records before sample_data r =
            row_8 r (order true after r) right.right (counts sample_data r.counted ∙ f)

        pub record_right : fit ≡ true → RecordChecked s h last fit (std.Ok n)
        unfolding RecordChecked
        record_right f = record {
          value = λ at samples records before sample_data r.
              all_right r (order true after r) right.right (counts sample_data r.counted ∙ f);
          count = right.number;
          few = right.few;
        }

-- ---- the lines and the checks together

module _ {s : List ℕ} {at samples : ℕ} {pls₀ pls : List ℕ} {h : CalledHead} {r : SamplesRead} (t : TextTo s at samples pls₀ pls h r)
    (last : std.Option PreviousRecord) where
  ready : (records : ℕ) (before : List Record) → length before < records → PreviousOf s before last
      → Ready s h last r.fit at samples records before t.sample_data
  ready records before more previous = record { lines = t.lines; counted = t.fit; more = more; previous = previous }

  pub record_refused : (e : Refusal) → RecordChecked s h last r.fit (std.Err e) → RecordFound s at samples last pls₀ pls (std.Err e)
  unfolding RecordChecked RecordFound
  record_refused e c records before more previous = c at samples records before t.sample_data (ready records before more previous)

  pub record_found : (n : ℕ) → RecordChecked s h last r.fit (std.Ok n) → RecordFound s at samples last pls₀ pls (std.Ok (record {
    contig = h.contig;
    pos = h.pos;
    alleles = h.alleles;
    count = n;
    next = r.next;
  }))
  unfolding RecordChecked RecordFound
  record_found n c = record {
    sample_data = t.sample_data;
    value = λ records before more previous. c.value at samples records before t.sample_data (ready records before more previous);
    table = t.table;
    rest = t.rest;
    count = c.count;
    few = c.few;
    behind = t.behind;
    forward = t.forward;
    within = t.within;
  }
