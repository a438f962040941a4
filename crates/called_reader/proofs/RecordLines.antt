-- The lines of a called record group, one after the other, and what their answers mean.
use Prim.Native.Nat.{◌*◌, ◌+◌, ℕ}
use mathlib.Core.List.{List}
use mathlib.Core.Option.{some}
use mathlib.Core.Path.{◌≡◌, refl}
use native.Mathlib.Omega.{arith}
use Rattle.std.specs.Prelude as std
use Rattle.answers.specs.Options.{option_of}
use Rattle.bio_ids.specs.declared.GenomePosition.{GenomePosition}
use Rattle.definitions.specs.Lines.{key_of, line_at}
use Rattle.definitions.specs.Numbers.{name, number, number_list, or_missing}
use Rattle.definitions.specs.SelectionSheet.{called_data_read, called_lines, called_record_read}
use Rattle.kv_text.proofs.Groups.{behind_next, behind_start, line_read, line_unread}
use Rattle.kv_text.proofs.Lines.{line_within}
use Rattle.kv_text.specs.Lines.{Behind, LineReads, read_to, unread}
use Rattle.kv_text.specs.declared.Part.{Part}
use Rattle.laws.proofs.Checked.{then, then_refused}
use Rattle.list_reader.proofs.RecordLines.{behind_same, skip, unless_1}
use Rattle.site_groups.specs.SiteGroups.{Counted, bytes_of, numbers_of}
use Rattle.site_groups.specs.declared.NumbersPart.{NumbersPart}
use Rattle.called_reader.specs.CalledGroups.{HeadRead, SampleRead}

-- ---- a sample's lines

module _ (s : List ℕ) (at : ℕ) where
  pub gq_wrong : LineReads s at (key_of "gq") (or_missing number) unread → SampleRead s at std.None
  unfolding SampleRead called_data_read called_lines
  gq_wrong l first samples i h b = then_refused _ _ (line_unread b "gq" (or_missing number) (4 + 4 * samples) (omega arith) l)

  module _ (gq : std.Option ℕ) (e₀ : ℕ) (l₀ : LineReads s at (key_of "gq") (or_missing number) (read_to (option_of gq) e₀)) where
    b₁ : (first k : ℕ) → Behind s first k at → Behind s first (k + 1) (e₀ + 1)
    b₁ first k b = behind_next b "gq" (or_missing number) _ e₀ l₀

    pub dp_wrong : LineReads s (e₀ + 1) (key_of "dp") (or_missing number) unread → SampleRead s at std.None
    unfolding SampleRead called_data_read called_lines line_at
    dp_wrong l first samples i h b =
        skip _ _ λ _. then_refused _ _ (line_unread (b₁ first _ b) "dp" (or_missing number) (4 + 4 * samples) (omega arith) l)

    module _ (dp : std.Option ℕ) (e₁ : ℕ) (l₁ : LineReads s (e₀ + 1) (key_of "dp") (or_missing number) (read_to (option_of dp) e₁)) where
      b₂ : (first k : ℕ) → Behind s first k at → Behind s first (k + 2) (e₁ + 1)
      b₂ first k b = behind_same (behind_next (b₁ first k b) "dp" (or_missing number) _ e₁ l₁) (omega arith)

      pub ad_wrong : LineReads s (e₁ + 1) (key_of "ad") (or_missing number_list) unread → SampleRead s at std.None
      unfolding SampleRead called_data_read called_lines line_at
      ad_wrong l first samples i h b =
          skip _ _ λ _. skip _ _ λ _. then_refused _ _ (line_unread (b₂ first _ b) "ad" (or_missing number_list) (4 + 4 * samples) (omega arith) l)

      module _ (ad : NumbersPart) (l₂ : LineReads s (e₁ + 1) (key_of "ad") (or_missing number_list) (read_to (numbers_of s ad) ad.end))
          (count₂ : Counted s ad) where
        b₃ : (first k : ℕ) → Behind s first k at → Behind s first (k + 3) (ad.end + 1)
        b₃ first k b = behind_same (behind_next (b₂ first k b) "ad" (or_missing number_list) _ ad.end l₂) (omega arith)

        pub pl_wrong : LineReads s (ad.end + 1) (key_of "pl") (or_missing number_list) unread → SampleRead s at std.None
        unfolding SampleRead called_data_read called_lines line_at
        pl_wrong l first samples i h b =
            skip _ _ λ _. skip _ _ λ _. skip _ _ λ _.
            then_refused _ _ (line_unread (b₃ first _ b) "pl" (or_missing number_list) (4 + 4 * samples) (omega arith) l)

        module _ (pl : NumbersPart) (l₃ : LineReads s (ad.end + 1) (key_of "pl") (or_missing number_list) (read_to (numbers_of s pl) pl.end))
            (count₃ : Counted s pl) where
          pub sample_read_lem : SampleRead s at (std.Some (record { ad = ad; pl = pl; next = pl.end + 1 }))
          unfolding SampleRead called_data_read called_lines LineReads
          sample_read_lem = record {
            gq = option_of gq;
            dp = option_of dp;
            lines = λ first samples i h b. record {
              value =
                  then _ _ (line_read b "gq" (or_missing number) (4 + 4 * samples) (omega arith) _ e₀ l₀)
                  (then _ _ (line_read (b₁ first _ b) "dp" (or_missing number) (4 + 4 * samples) (omega arith) _ e₁ l₁)
                  (then _ _ (line_read (b₂ first _ b) "ad" (or_missing number_list) (4 + 4 * samples) (omega arith) _ ad.end l₂)
                  (then _ _ (line_read (b₃ first _ b) "pl" (or_missing number_list) (4 + 4 * samples) (omega arith) _ pl.end l₃) refl)));
              behind = behind_same (behind_next (b₃ first _ b) "pl" (or_missing number_list) _ pl.end l₃) (omega arith);
            };
            ad_count = count₂;
            pl_count = count₃;
            forward = omega (arith, l₀.forward, l₁.forward, l₂.forward, l₃.forward);
            within = let h = line_within s (ad.end + 1) (key_of "pl") (or_missing number_list) _ pl.end l₃ in omega arith;
          }

-- ---- the first four lines

module _ (s : List ℕ) (at : ℕ) where
  pub contig_wrong : LineReads s at (key_of "contig") name unread → HeadRead s at std.None
  unfolding HeadRead called_record_read called_lines
  contig_wrong l samples records before =
      unless_1 _ _ (then_refused _ _ (line_unread (behind_start s at) "contig" name (4 + 4 * samples) (omega arith) l))

  module _ (contig : Part) (l₀ : LineReads s at (key_of "contig") name (read_to (bytes_of s contig) contig.end)) where
    h₁ : Behind s at 1 (contig.end + 1)
    h₁ = behind_next (behind_start s at) "contig" name _ contig.end l₀

    pub pos_wrong : LineReads s (contig.end + 1) (key_of "pos") number unread → HeadRead s at std.None
    unfolding HeadRead called_record_read called_lines line_at
    pos_wrong l samples records before =
        unless_1 _ _ (skip _ _ λ _. then_refused _ _ (line_unread h₁ "pos" number (4 + 4 * samples) (omega arith) l))

    module _ (pos e₁ : ℕ) (l₁ : LineReads s (contig.end + 1) (key_of "pos") number (read_to pos e₁)) where
      h₂ : Behind s at 2 (e₁ + 1)
      h₂ = behind_next h₁ "pos" number pos e₁ l₁

      pub ref_wrong : LineReads s (e₁ + 1) (key_of "ref") some unread → HeadRead s at std.None
      unfolding HeadRead called_record_read called_lines line_at
      ref_wrong l samples records before =
          unless_1 _ _ (skip _ _ λ _. skip _ _ λ _. then_refused _ _ (line_unread h₂ "ref" some (4 + 4 * samples) (omega arith) l))

      module _ (refs : Part) (l₂ : LineReads s (e₁ + 1) (key_of "ref") some (read_to (bytes_of s refs) refs.end)) where
        h₃ : Behind s at 3 (refs.end + 1)
        h₃ = behind_next h₂ "ref" some _ refs.end l₂

        pub alt_wrong : LineReads s (refs.end + 1) (key_of "alt") some unread → HeadRead s at std.None
        unfolding HeadRead called_record_read called_lines line_at
        alt_wrong l samples records before =
            unless_1 _ _ (skip _ _ λ _. skip _ _ λ _. skip _ _ λ _. then_refused _ _ (line_unread h₃ "alt" some (4 + 4 * samples) (omega arith) l))

        module _ (alts : Part) (l₃ : LineReads s (refs.end + 1) (key_of "alt") some (read_to (bytes_of s alts) alts.end)) where
          pub head_read : {first : GenomePosition} → first.0 ≡ pos → HeadRead s at (std.Some (record {
            contig = contig;
            pos = first;
            alleles = record { refs = refs; alts = alts; next = alts.end + 1 };
          }))
          unfolding HeadRead called_lines LineReads
          head_read same = record {
            lines = λ samples. record {
              contig = line_read (behind_start s at) "contig" name (4 + 4 * samples) (omega arith) _ contig.end l₀;
              pos = rw same (line_read h₁ "pos" number (4 + 4 * samples) (omega arith) _ e₁ l₁);
              ref = line_read h₂ "ref" some (4 + 4 * samples) (omega arith) _ refs.end l₂;
              alt = line_read h₃ "alt" some (4 + 4 * samples) (omega arith) _ alts.end l₃;
            };
            behind = behind_same (behind_next h₃ "alt" some _ alts.end l₃) (omega arith);
            forward = omega (arith, h₃.forward, l₃.forward);
            within = let h = line_within s (refs.end + 1) (key_of "alt") some _ alts.end l₃ in omega arith;
          }
