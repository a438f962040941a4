-- The lines of a record group, one after the other, and what their answers mean.
use Prim.Native.Nat.{◌*◌, ◌+◌, suc, ℕ}
use mathlib.Core.Bool.{Bool, false, true}
use mathlib.Core.List.{List}
use mathlib.Core.Option.{Option, none, some}
use mathlib.Core.Path.{◌≡◌, refl}
use native.Mathlib.Omega.{arith}
use Rattle.std.specs.Prelude as std
use Rattle.answers.specs.Options.{option_of}
use Rattle.bio_ids.specs.declared.GenomePosition.{GenomePosition}
use Rattle.definitions.specs.Checked.{Checked, ◌>>=◌, ◌>>◌, or_refuse, refused, require}
use Rattle.definitions.specs.Genotypes.{AllelePair}
use Rattle.definitions.specs.Lines.{key_of, line_at}
use Rattle.definitions.specs.ListReader.{gt_of, record_lines, record_read, sample_data_read, sample_lines}
use Rattle.definitions.specs.Numbers.{name, number, number_list, or_missing}
use Rattle.kv_text.proofs.Groups.{behind_next, behind_start, line_read, line_unread}
use Rattle.kv_text.proofs.Lines.{line_within}
use Rattle.kv_text.specs.Lines.{Behind, LineReads, read_to, unread}
use Rattle.kv_text.specs.declared.Part.{Part}
use Rattle.laws.proofs.Checked.{then, then_refused}
use Rattle.site_groups.proofs.SiteLines.{is_small}
use Rattle.site_groups.specs.SiteGroups.{Counted, bytes_of, numbers_of}
use Rattle.site_groups.specs.declared.NumbersPart.{NumbersPart}
use Rattle.list_reader.specs.RecordGroups.{HeadRead, SampleRead, end_option}

-- so many lines behind an offset, counted in another way
pub behind_same : {s : List ℕ} {first k m at : ℕ} → Behind s first k at → k ≡ m → Behind s first m at
behind_same b e = rw (← e) b

-- ---- row 1

-- any line that is refused refuses the group: the lines before it are accepted, or refused with 1 too
pub skip : {A B : Type 0} (o : Option A) (f : A → Checked B) → ((a : A) → f a ≡ refused 1) → (or_refuse 1 o >>= f) ≡ refused 1
unfolding ◌>>=◌ or_refuse
skip none f h = refl
skip (some a) f h = h a

-- and so it does whether there are records left or not
pub unless_1 : {B : Type 0} (b : Bool) (r : Checked B) → r ≡ refused 1 → (require 1 b >> r) ≡ refused 1
unfolding ◌>>=◌ ◌>>◌ require
unless_1 true r h = h
unless_1 false r h = refl

-- ---- a sample's lines

module _ (s : List ℕ) (at alts : ℕ) where
  pub gt_wrong : LineReads s at (key_of "gt") (or_missing (gt_of (suc alts))) unread → SampleRead s at alts std.None
  unfolding SampleRead sample_data_read record_lines sample_lines
  gt_wrong l first samples i h b = then_refused _ _ (line_unread b "gt" (or_missing (gt_of (suc alts))) (5 + 6 * samples) (omega arith) l)

  module _ (g : Option AllelePair) (e₀ : ℕ) (l₀ : LineReads s at (key_of "gt") (or_missing (gt_of (suc alts))) (read_to g e₀)) where
    b₁ : (first k : ℕ) → Behind s first k at → Behind s first (k + 1) (e₀ + 1)
    b₁ first k b = behind_next b "gt" (or_missing (gt_of (suc alts))) g e₀ l₀

    pub gq_wrong : LineReads s (e₀ + 1) (key_of "gq") (or_missing number) unread → SampleRead s at alts std.None
    unfolding SampleRead sample_data_read record_lines sample_lines line_at
    gq_wrong l first samples i h b =
        skip _ _ λ _. then_refused _ _ (line_unread (b₁ first _ b) "gq" (or_missing number) (5 + 6 * samples) (omega arith) l)

    module _ (gq : std.Option ℕ) (e₁ : ℕ) (l₁ : LineReads s (e₀ + 1) (key_of "gq") (or_missing number) (read_to (option_of gq) e₁)) where
      b₂ : (first k : ℕ) → Behind s first k at → Behind s first (k + 2) (e₁ + 1)
      b₂ first k b = behind_same (behind_next (b₁ first k b) "gq" (or_missing number) _ e₁ l₁) (omega arith)

      pub dp_wrong : LineReads s (e₁ + 1) (key_of "dp") (or_missing number) unread → SampleRead s at alts std.None
      unfolding SampleRead sample_data_read record_lines sample_lines line_at
      dp_wrong l first samples i h b =
          skip _ _ λ _. skip _ _ λ _. then_refused _ _ (line_unread (b₂ first _ b) "dp" (or_missing number) (5 + 6 * samples) (omega arith) l)

      module _ (dp : std.Option ℕ) (e₂ : ℕ) (l₂ : LineReads s (e₁ + 1) (key_of "dp") (or_missing number) (read_to (option_of dp) e₂)) where
        b₃ : (first k : ℕ) → Behind s first k at → Behind s first (k + 3) (e₂ + 1)
        b₃ first k b = behind_same (behind_next (b₂ first k b) "dp" (or_missing number) _ e₂ l₂) (omega arith)

        pub mindp_wrong : LineReads s (e₂ + 1) (key_of "mindp") (or_missing number) unread → SampleRead s at alts std.None
        unfolding SampleRead sample_data_read record_lines sample_lines line_at
        mindp_wrong l first samples i h b =
            skip _ _ λ _. skip _ _ λ _. skip _ _ λ _. then_refused _ _ (line_unread (b₃ first _ b) "mindp" (or_missing number) (5 + 6 * samples) (omega arith) l)

        module _ (mindp : std.Option ℕ) (e₃ : ℕ) (l₃ : LineReads s (e₂ + 1) (key_of "mindp") (or_missing number) (read_to (option_of mindp) e₃)) where
          b₄ : (first k : ℕ) → Behind s first k at → Behind s first (k + 4) (e₃ + 1)
          b₄ first k b = behind_same (behind_next (b₃ first k b) "mindp" (or_missing number) _ e₃ l₃) (omega arith)

          pub ad_wrong : LineReads s (e₃ + 1) (key_of "ad") (or_missing number_list) unread → SampleRead s at alts std.None
          unfolding SampleRead sample_data_read record_lines sample_lines line_at
          ad_wrong l first samples i h b =
              skip _ _ λ _. skip _ _ λ _. skip _ _ λ _. skip _ _ λ _. then_refused _ _ (line_unread (b₄ first _ b) "ad" (or_missing number_list) (5 + 6 * samples) (omega arith) l)

          module _ (ad : NumbersPart) (l₄ : LineReads s (e₃ + 1) (key_of "ad") (or_missing number_list) (read_to (numbers_of s ad) ad.end))
              (count₄ : Counted s ad) where
            b₅ : (first k : ℕ) → Behind s first k at → Behind s first (k + 5) (ad.end + 1)
            b₅ first k b = behind_same (behind_next (b₄ first k b) "ad" (or_missing number_list) _ ad.end l₄) (omega arith)

            pub pl_wrong : LineReads s (ad.end + 1) (key_of "pl") (or_missing number_list) unread → SampleRead s at alts std.None
            unfolding SampleRead sample_data_read record_lines sample_lines line_at
            pl_wrong l first samples i h b =
                skip _ _ λ _. skip _ _ λ _. skip _ _ λ _. skip _ _ λ _. skip _ _ λ _.
                then_refused _ _ (line_unread (b₅ first _ b) "pl" (or_missing number_list) (5 + 6 * samples) (omega arith) l)

            module _ (pl : NumbersPart) (l₅ : LineReads s (ad.end + 1) (key_of "pl") (or_missing number_list) (read_to (numbers_of s pl) pl.end))
                (count₅ : Counted s pl) where
              pub sample_read_lem : SampleRead s at alts (std.Some (record { gq = gq; dp = dp; mindp = mindp; ad = ad; pl = pl; next = pl.end + 1 }))
              unfolding SampleRead sample_data_read record_lines sample_lines LineReads
              sample_read_lem = record {
                gt = g;
                lines = λ first samples i h b. record {
                  value =
                      then _ _ (line_read b "gt" (or_missing (gt_of (suc alts))) (5 + 6 * samples) (omega arith) g e₀ l₀)
                      (then _ _ (line_read (b₁ first _ b) "gq" (or_missing number) (5 + 6 * samples) (omega arith) _ e₁ l₁)
                      (then _ _ (line_read (b₂ first _ b) "dp" (or_missing number) (5 + 6 * samples) (omega arith) _ e₂ l₂)
                      (then _ _ (line_read (b₃ first _ b) "mindp" (or_missing number) (5 + 6 * samples) (omega arith) _ e₃ l₃)
                      (then _ _ (line_read (b₄ first _ b) "ad" (or_missing number_list) (5 + 6 * samples) (omega arith) _ ad.end l₄)
                      (then _ _ (line_read (b₅ first _ b) "pl" (or_missing number_list) (5 + 6 * samples) (omega arith) _ pl.end l₅) refl)))));
                  behind = behind_same (behind_next (b₅ first _ b) "pl" (or_missing number_list) _ pl.end l₅) (omega arith);
                };
                small = record { gq = is_small _ _ _ _ _ l₁; dp = is_small _ _ _ _ _ l₂; mindp = is_small _ _ _ _ _ l₃ };
                ad_count = count₄;
                pl_count = count₅;
                forward = omega (arith, l₀.forward, l₁.forward, l₂.forward, l₃.forward, l₄.forward, l₅.forward);
                within = let h = line_within s (ad.end + 1) (key_of "pl") (or_missing number_list) _ pl.end l₅ in omega arith;
              }

-- ---- the first five lines

module _ (s : List ℕ) (at : ℕ) where
  pub contig_wrong : LineReads s at (key_of "contig") name unread → HeadRead s at std.None
  unfolding HeadRead record_read record_lines sample_lines
  contig_wrong l samples records before =
      unless_1 _ _ (then_refused _ _ (line_unread (behind_start s at) "contig" name (5 + 6 * samples) (omega arith) l))

  module _ (contig : Part) (l₀ : LineReads s at (key_of "contig") name (read_to (bytes_of s contig) contig.end)) where
    h₁ : Behind s at 1 (contig.end + 1)
    h₁ = behind_next (behind_start s at) "contig" name _ contig.end l₀

    pub pos_wrong : LineReads s (contig.end + 1) (key_of "pos") number unread → HeadRead s at std.None
    unfolding HeadRead record_read record_lines sample_lines line_at
    pos_wrong l samples records before =
        unless_1 _ _ (skip _ _ λ _. then_refused _ _ (line_unread h₁ "pos" number (5 + 6 * samples) (omega arith) l))

    module _ (pos e₁ : ℕ) (l₁ : LineReads s (contig.end + 1) (key_of "pos") number (read_to pos e₁)) where
      h₂ : Behind s at 2 (e₁ + 1)
      h₂ = behind_next h₁ "pos" number pos e₁ l₁

      pub end_wrong : LineReads s (e₁ + 1) (key_of "end") (or_missing number) unread → HeadRead s at std.None
      unfolding HeadRead record_read record_lines sample_lines line_at
      end_wrong l samples records before =
          unless_1 _ _ (skip _ _ λ _. skip _ _ λ _. then_refused _ _ (line_unread h₂ "end" (or_missing number) (5 + 6 * samples) (omega arith) l))

      module _ (end : std.Option GenomePosition) (e₂ : ℕ) (l₂ : LineReads s (e₁ + 1) (key_of "end") (or_missing number) (read_to (end_option end) e₂)) where
        h₃ : Behind s at 3 (e₂ + 1)
        h₃ = behind_next h₂ "end" (or_missing number) _ e₂ l₂

        pub ref_wrong : LineReads s (e₂ + 1) (key_of "ref") some unread → HeadRead s at std.None
        unfolding HeadRead record_read record_lines sample_lines line_at
        ref_wrong l samples records before =
            unless_1 _ _ (skip _ _ λ _. skip _ _ λ _. skip _ _ λ _. then_refused _ _ (line_unread h₃ "ref" some (5 + 6 * samples) (omega arith) l))

        module _ (refs : Part) (l₃ : LineReads s (e₂ + 1) (key_of "ref") some (read_to (bytes_of s refs) refs.end)) where
          h₄ : Behind s at 4 (refs.end + 1)
          h₄ = behind_next h₃ "ref" some _ refs.end l₃

          pub alt_wrong : LineReads s (refs.end + 1) (key_of "alt") some unread → HeadRead s at std.None
          unfolding HeadRead record_read record_lines sample_lines line_at
          alt_wrong l samples records before =
              unless_1 _ _ (skip _ _ λ _. skip _ _ λ _. skip _ _ λ _. skip _ _ λ _. then_refused _ _ (line_unread h₄ "alt" some (5 + 6 * samples) (omega arith) l))

          module _ (alts : Part) (l₄ : LineReads s (refs.end + 1) (key_of "alt") some (read_to (bytes_of s alts) alts.end)) where
            pub head_read : {first : GenomePosition} → first.0 ≡ pos → HeadRead s at (std.Some (record {
              contig = contig;
              pos = first;
              end = end;
              alleles = record { refs = refs; alts = alts; next = alts.end + 1 };
            }))
            unfolding HeadRead record_lines sample_lines LineReads
            head_read same = record {
              lines = λ samples. record {
                contig = line_read (behind_start s at) "contig" name (5 + 6 * samples) (omega arith) _ contig.end l₀;
                pos = rw same (line_read h₁ "pos" number (5 + 6 * samples) (omega arith) _ e₁ l₁);
                end = line_read h₂ "end" (or_missing number) (5 + 6 * samples) (omega arith) _ e₂ l₂;
                ref = line_read h₃ "ref" some (5 + 6 * samples) (omega arith) _ refs.end l₃;
                alt = line_read h₄ "alt" some (5 + 6 * samples) (omega arith) _ alts.end l₄;
              };
              behind = behind_same (behind_next h₄ "alt" some _ alts.end l₄) (omega arith);
              forward = omega (arith, h₄.forward, l₄.forward);
              within = let h = line_within s (refs.end + 1) (key_of "alt") some _ alts.end l₄ in omega arith;
            }
