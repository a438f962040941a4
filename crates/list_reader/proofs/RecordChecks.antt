-- Rows 4 to 8 of a record group, one after the other.
use Prim.Native.Nat.{◌<◌, ◌≤◌, suc, ℕ}
use borrow.Author.Tests.{eq-eqb, eqb-true, le-leb, lt-leb, lt-ltb}
use lib.Dec.{eqb, leb, ltb}
use lib.ListN.{length, length-map}
use mathlib.Core.Bool.{Bool, ◌&&◌, ◌||◌, false, not, true}
use mathlib.Core.List.{List, [], ◌∷◌}
use mathlib.Core.Option.{Option, none, some}
use mathlib.Core.Path.{◌∙◌, ◌≡◌, refl, sym}
use native.Mathlib.Omega.{arith}
use Rattle.std.specs.Prelude as std
use Rattle.answers.specs.declared.Refusal.{Refusal}
use Rattle.answers.specs.declared.Refusal.TheVariants as refusal
use Rattle.alleles.specs.Alleles.{AllelesRight}
use Rattle.definitions.specs.Alleles.{capital, has_non_ref, is_block, only_non_ref, ref_alts_of}
use Rattle.definitions.specs.Bytes.{comma, fields_of}
use Rattle.definitions.specs.Checked.{Checked, ◌>>=◌, ◌>>◌, accepted, or_refuse, refused, require}
use Rattle.definitions.specs.Genotypes.{SampleData}
use Rattle.definitions.specs.ListReader.{comes_after, counts_fit, end_allowed, record_read}
use Rattle.definitions.specs.Lists.{all_of, is_there, missing_or}
use Rattle.definitions.specs.Records.{Record, record_end}
use Rattle.laws.proofs.Checked.{not_required, or_refused, required, then, then_refused}
use Rattle.laws.proofs.Tests.{bool_ext}
use Rattle.site_groups.specs.SiteGroups.{bytes_of}
use Rattle.laws.proofs.AllelesAsRead.{allele_as_read, ref_alts_as_read}
use Rattle.list_reader.specs.RecordGroups.{PreviousOf, Ready, RecordChecked, RecordFound, TextTo, alleles_at, alts_at, comes_after_last, end_option, record_from, record_group, right_counts}
use Rattle.list_reader.specs.declared.PreviousRecord.{PreviousRecord}
use Rattle.list_reader.specs.declared.RecordHead.{RecordHead}
use Rattle.list_reader.specs.declared.SamplesRead.{SamplesRead}

-- ---- the rows

module _ {s : List ℕ} {h : RecordHead} {last : std.Option PreviousRecord} {fit : Bool} {at samples records : ℕ} {before : List Record} {sample_data : List SampleData}
    (r : Ready s h last fit at samples records before sample_data) where
  abbrev answer : Checked Record
  answer = record_read samples records before (record_group s at samples)

  abbrev in_place : Bool
  in_place = leb 1 h.pos.0 && missing_or (ltb h.pos.0) (end_option h.end) && comes_after before (bytes_of s h.contig) h.pos.0

  -- what is left behind the lines
  abbrev checks : Checked Record
  checks = do
    require 4 in_place
    alleles ← or_refuse 5 (ref_alts_of 255 16 (bytes_of s h.alleles.refs) (bytes_of s h.alleles.alts))
    require 6 (has_non_ref alleles)
    require 7 (end_allowed alleles (end_option h.end))
    require 8 (all_of (counts_fit alleles) sample_data)
    accepted (record { contig = bytes_of s h.contig; pos = h.pos.0; end = end_option h.end; alleles = alleles; sample_data = sample_data })

  past_lines : answer ≡ checks
  unfolding record_read
  past_lines = required _ _ _ (lt-ltb _ _ r.more) (then _ _ r.lines.first.contig (then _ _ r.lines.first.pos
      (then _ _ r.lines.first.end (then _ _ r.lines.first.ref (then _ _ r.lines.first.alt (then _ _ r.lines.later refl))))))

  row_4 : in_place ≡ false → answer ≡ refused 4
  row_4 f = past_lines ∙ not_required _ _ _ f

  module _ (placed : in_place ≡ true) where
    row_5 : ref_alts_of 255 16 (bytes_of s h.alleles.refs) (bytes_of s h.alleles.alts) ≡ none → answer ≡ refused 5
    unfolding or_refuse
    row_5 f = past_lines ∙ required _ _ _ placed (then_refused _ _ (rw f))

    module _ (right : ref_alts_of 255 16 (bytes_of s h.alleles.refs) (bytes_of s h.alleles.alts) ≡ some (alleles_at s h.alleles)) where
      row_6 : has_non_ref (alleles_at s h.alleles) ≡ false → answer ≡ refused 6
      row_6 f = past_lines ∙ required _ _ _ placed (then _ _ (or_refused 5 _ right) (not_required _ _ _ f))

      module _ (has : has_non_ref (alleles_at s h.alleles) ≡ true) where
        row_7 : end_allowed (alleles_at s h.alleles) (end_option h.end) ≡ false → answer ≡ refused 7
        row_7 f = past_lines ∙ required _ _ _ placed (then _ _ (or_refused 5 _ right) (required _ _ _ has (not_required _ _ _ f)))

        module _ (ends : end_allowed (alleles_at s h.alleles) (end_option h.end) ≡ true) where
          row_8 : all_of (counts_fit (alleles_at s h.alleles)) sample_data ≡ false → answer ≡ refused 8
          row_8 f = past_lines ∙ required _ _ _ placed (then _ _ (or_refused 5 _ right) (required _ _ _ has (required _ _ _ ends (not_required _ _ _ f))))

          all_right : all_of (counts_fit (alleles_at s h.alleles)) sample_data ≡ true
              → answer ≡ accepted (record_from s h.contig h.pos h.end h.alleles sample_data)
          all_right f = past_lines ∙ required _ _ _ placed (then _ _ (or_refused 5 _ right) (required _ _ _ has (required _ _ _ ends (required _ _ _ f refl))))

-- ---- the tests of the code as those of the definitions

pub came_after : (s : List ℕ) (before : List Record) (last : std.Option PreviousRecord) (contig : List ℕ) (pos : ℕ) → PreviousOf s before last
    → comes_after before contig pos ≡ comes_after_last s last contig pos
unfolding PreviousOf comes_after record_end
came_after s before std.None contig pos e = rw e
came_after s before (std.Some p) contig pos e = rw (e.nearest, e.on, e.to)

-- a block by the numbers of alleles and of letters
module _ (ref alt : List ℕ) (n : ℕ) (number : n ≡ suc (length (fields_of comma alt))) (has : has_non_ref (ref_alts_as_read ref (fields_of comma alt)) ≡ true) where
  two : eqb (length (ref_alts_as_read ref (fields_of comma alt)).alts) 1 ≡ eqb n 2
  unfolding ref_alts_as_read
  two = rw (length-map (fields_of comma alt) allele_as_read) (bool_ext _ _
      (λ e. let k = eqb-true (length (fields_of comma alt)) 1 e in eq-eqb n 2 (omega arith))
      (λ e. let k = eqb-true n 2 e in eq-eqb (length (fields_of comma alt)) 1 (omega arith)))

  and_true : (b : Bool) → b && true ≡ b
  and_true true = refl
  and_true false = refl

  block : is_block (ref_alts_as_read ref (fields_of comma alt)) ≡ (eqb n 2 && eqb (length ref) 1)
  unfolding is_block only_non_ref
  block = rw (has, two, and_true (eqb n 2)) (unfold ref_alts_as_read in rw (length-map ref capital))

  allowed : (end : Option ℕ) → end_allowed (ref_alts_as_read ref (fields_of comma alt)) end ≡ (not (is_there end) || (eqb n 2 && eqb (length ref) 1))
  unfolding end_allowed is_there
  allowed none = refl
  allowed (some end) = block

pub all_same : {A : Type 0} (p q : A → Bool) → ((x : A) → p x ≡ q x) → (l : List A) → all_of p l ≡ all_of q l
unfolding all_of
all_same p q e [] = refl
all_same p q e (x ∷ l) = rw (e x, all_same p q e l)

-- ---- the tests of the code, one after the other

module _ (s : List ℕ) (h : RecordHead) (last : std.Option PreviousRecord) (fit : Bool) where
  pub position_0 : h.pos.0 < 1 → RecordChecked s h last fit (std.Err refusal.Position)
  unfolding RecordChecked
  position_0 l at samples records before sample_data r = row_4 r (rw (lt-leb 1 h.pos.0 l))

  module _ (positive : 1 ≤ h.pos.0) where
    pub end_not_past : missing_or (ltb h.pos.0) (end_option h.end) ≡ false → RecordChecked s h last fit (std.Err refusal.Position)
    unfolding RecordChecked
    end_not_past f at samples records before sample_data r = row_4 r (rw (le-leb 1 h.pos.0 positive, f))

    module _ (past : missing_or (ltb h.pos.0) (end_option h.end) ≡ true) where
      order : (b : Bool) → comes_after_last s last (bytes_of s h.contig) h.pos.0 ≡ b → {at samples records : ℕ} {before : List Record}
          {sample_data : List SampleData} → (r : Ready s h last fit at samples records before sample_data) → in_place r ≡ b
      order b f {before = before} r =
          rw (le-leb 1 h.pos.0 positive, past, came_after s before last (bytes_of s h.contig) h.pos.0 r.previous) f

      pub too_early : comes_after_last s last (bytes_of s h.contig) h.pos.0 ≡ false → RecordChecked s h last fit (std.Err refusal.Position)
      unfolding RecordChecked
      too_early f at samples records before sample_data r = row_4 r (order false f r)

      module _ (after : comes_after_last s last (bytes_of s h.contig) h.pos.0 ≡ true) where
        pub allele_faulty : ref_alts_of 255 16 (bytes_of s h.alleles.refs) (bytes_of s h.alleles.alts) ≡ none
            → RecordChecked s h last fit (std.Err refusal.Alleles)
        unfolding RecordChecked
        allele_faulty f at samples records before sample_data r = row_5 r (order true after r) f

        module _ (n : ℕ) (has : Bool) (right : AllelesRight 255 16 (bytes_of s h.alleles.refs) (bytes_of s h.alleles.alts) n has) where
          pub no_non_ref : has ≡ false → RecordChecked s h last fit (std.Err refusal.NonRefAbsent)
          unfolding RecordChecked
          no_non_ref f at samples records before sample_data r = row_6 r (order true after r) right.right (sym right.has ∙ f)

          module _ (there : has ≡ true) where
            has_it : has_non_ref (alleles_at s h.alleles) ≡ true
            has_it = sym right.has ∙ there

            abbrev ended : Bool
            ended = not (is_there (end_option h.end)) || (eqb n 2 && eqb (length (bytes_of s h.alleles.refs)) 1)

            end_test : end_allowed (alleles_at s h.alleles) (end_option h.end) ≡ ended
            end_test = allowed _ _ n right.number has_it (end_option h.end)

            pub end_wrong : ended ≡ false → RecordChecked s h last fit (std.Err refusal.End)
            unfolding RecordChecked
            end_wrong f at samples records before sample_data r = row_7 r (order true after r) right.right has_it (end_test ∙ f)

            module _ (ends : ended ≡ true) where
              counts : (sample_data : List SampleData) → fit ≡ all_of (right_counts s h.alleles) sample_data
                  → all_of (counts_fit (alleles_at s h.alleles)) sample_data ≡ fit
              counts sample_data e = sym (e ∙ all_same _ _ same sample_data)
                where
                  same : (v : SampleData) → right_counts s h.alleles v ≡ counts_fit (alleles_at s h.alleles) v
                  same v =
                      let few : alts_at s h.alleles < 16 = omega (arith, right.number, right.few) in
                      unfold right_counts in rw (lt-ltb (alts_at s h.alleles) 16 few)

              pub counts_wrong : fit ≡ false → RecordChecked s h last fit (std.Err refusal.Counts)
              unfolding RecordChecked
              counts_wrong f at samples records before sample_data r =
                  row_8 r (order true after r) right.right has_it (end_test ∙ ends) (counts sample_data r.counted ∙ f)

              pub record_right : fit ≡ true → RecordChecked s h last fit (std.Ok n)
              unfolding RecordChecked
              record_right f = record {
                value = λ at samples records before sample_data r.
                    all_right r (order true after r) right.right has_it (end_test ∙ ends) (counts sample_data r.counted ∙ f);
                count = right.number;
                few = right.few;
              }

-- ---- the lines and the checks together

module _ {s : List ℕ} {at samples : ℕ} {rows₀ rows : List ℕ} {h : RecordHead} {r : SamplesRead} (t : TextTo s at samples rows₀ rows h r)
    (last : std.Option PreviousRecord) where
  ready : (records : ℕ) (before : List Record) → length before < records → PreviousOf s before last
      → Ready s h last r.fit at samples records before t.sample_data
  ready records before more previous = record { lines = t.lines; counted = t.fit; more = more; previous = previous }

  pub record_refused : (e : Refusal) → RecordChecked s h last r.fit (std.Err e) → RecordFound s at samples last rows₀ rows (std.Err e)
  unfolding RecordChecked RecordFound
  record_refused e c records before more previous = c at samples records before t.sample_data (ready records before more previous)

  pub record_found : (n : ℕ) → RecordChecked s h last r.fit (std.Ok n) → RecordFound s at samples last rows₀ rows (std.Ok (record {
    contig = h.contig;
    pos = h.pos;
    end = h.end;
    alleles = h.alleles;
    count = n;
    has_pl = r.has_pl;
    next = r.next;
  }))
  unfolding RecordChecked RecordFound
  record_found n c = record {
    sample_data = t.sample_data;
    value = λ records before more previous. c.value at samples records before t.sample_data (ready records before more previous);
    table = t.table;
    rest = t.rest;
    count = c.count;
    few = c.few;
    has_pl = t.has_pl;
    behind = t.behind;
    forward = t.forward;
    within = t.within;
  }
