-- The lines of a site group, and what their answers mean.
use Prim.Native.Nat.{◌+◌, ◌≤◌, ℕ}
use lib.ListN.{drop, get_or, length}
use mathlib.Core.List.{List, []}
use mathlib.Core.Option
use Rattle.std.specs.Prelude as std
use Rattle.std.specs.Prelude.{unwrap_or}
use Rattle.std.proofs.lemmas.List.Edits.{sets}
use Rattle.answers.specs.Options.{option_of}
use mathlib.Core.Option.{Option, none, some}
use mathlib.Core.Path.{◌≡◌, refl}
use native.Mathlib.Omega.{arith}
use Rattle.bio_ids.specs.declared.GenomePosition.{GenomePosition}
use Rattle.bio_ids.specs.declared.SampleIndex.{SampleIndex}
use Rattle.definitions.specs.Bytes.{fields_of}
use Rattle.definitions.specs.Checked.{Checked, ◌>>=◌, or_refuse, refused}
use Rattle.definitions.specs.Cohort.{site_lines, site_text_of}
use Rattle.definitions.specs.Lines.{Line, key_of, line_at, lines_of, value_of}
use Rattle.definitions.specs.Lists.{all_of, all_some, only_if, split_where}
use Rattle.definitions.specs.Numbers.{name, no_leading_zero, number, number_list, or_missing}
use Rattle.laws.proofs.Checked.{then, then_refused}
use Rattle.laws.proofs.Decimals.{InRange}
use Rattle.laws.proofs.Every.{IfThere}
use Rattle.laws.proofs.SoundValues.{number_or_missing_sound}
use Rattle.laws.proofs.Tests.{after_bind}
use Rattle.kv_text.proofs.Groups.{behind_next, behind_start, line_read, line_unread}
use Rattle.kv_text.proofs.Lines.{line_within}
use Rattle.kv_text.specs.Fields.{between}
use Rattle.kv_text.specs.Lines.{Behind, LineReads, ListStored, line_value, list_count, list_found, read_to, unread}
use Rattle.kv_text.specs.declared.ListStart.{ListStart}
use Rattle.kv_text.specs.declared.Part.{Part}
use Rattle.tables.proofs.Parts.{between_none}
use Rattle.site_groups.specs.SiteGroups.{AlleleLines, AlleleLinesRead, Counted, PlaceLines, PlaceRead, SomeStored, Stored, TextRead, ValueLines, ValuesRead, bytes_of, numbers_of}
use Rattle.site_groups.specs.declared.NumbersPart.{NumbersPart}
use Rattle.site_groups.specs.declared.SiteAlleles.{SiteAlleles}
use Rattle.site_groups.specs.declared.SitePlace.{SitePlace}
use Rattle.site_groups.specs.declared.SiteValues.{SiteValues}

-- what holds of every value that reads holds of a line's
pub line_back : {A : Type 0} (P : A → Type 0) (s : List ℕ) (at : ℕ) (key : List ℕ) (read : List ℕ → Option A) (a : A) (e : ℕ)
    → ((v : List ℕ) (a : A) → read v ≡ some a → P a) → LineReads s at key read (read_to a e) → P a
unfolding LineReads line_value
line_back P s at key read a e f l =
    after_bind (value_of key (get_or (lines_of (drop at s)) 0 none)) read l.value λ v p q. f v a q

-- a number of a line, if it is there, is at most the greatest
pub is_small : (s : List ℕ) (at : ℕ) (key : List ℕ) (n : std.Option ℕ) (e : ℕ)
    → LineReads s at key (or_missing number) (read_to (option_of n) e) → IfThere InRange (option_of n)
is_small s at key n e l = line_back (IfThere InRange) s at key (or_missing number) _ e number_or_missing_sound l

-- ---- row 1: any line that is refused refuses the group, as the lines before it are accepted or refused with 1 too

skip : {A B : Type 0} (o : Option A) (f : A → Checked B) → ((a : A) → f a ≡ refused 1) → (or_refuse 1 o >>= f) ≡ refused 1
unfolding ◌>>=◌ or_refuse
skip none f h = refl
skip (some a) f h = h a

module _ (group : List Line) where
  pub site_refused : line_at group 0 "site" number ≡ refused 1 → site_text_of group ≡ refused 1
  unfolding site_text_of
  site_refused h = then_refused _ _ h

  pub contig_refused : line_at group 1 "contig" name ≡ refused 1 → site_text_of group ≡ refused 1
  unfolding site_text_of line_at
  contig_refused h = skip _ _ λ _. then_refused _ _ h

  pub start_refused : line_at group 2 "start" number ≡ refused 1 → site_text_of group ≡ refused 1
  unfolding site_text_of line_at
  start_refused h = skip _ _ λ _. skip _ _ λ _. then_refused _ _ h

  pub end_refused : line_at group 3 "end" number ≡ refused 1 → site_text_of group ≡ refused 1
  unfolding site_text_of line_at
  end_refused h = skip _ _ λ _. skip _ _ λ _. skip _ _ λ _. then_refused _ _ h

  pub ref_refused : line_at group 4 "ref" some ≡ refused 1 → site_text_of group ≡ refused 1
  unfolding site_text_of line_at
  ref_refused h = skip _ _ λ _. skip _ _ λ _. skip _ _ λ _. skip _ _ λ _. then_refused _ _ h

  pub alt_refused : line_at group 5 "alt" some ≡ refused 1 → site_text_of group ≡ refused 1
  unfolding site_text_of line_at
  alt_refused h = skip _ _ λ _. skip _ _ λ _. skip _ _ λ _. skip _ _ λ _. skip _ _ λ _. then_refused _ _ h

  pub gq_refused : line_at group 6 "gq" (or_missing number) ≡ refused 1 → site_text_of group ≡ refused 1
  unfolding site_text_of line_at
  gq_refused h = skip _ _ λ _. skip _ _ λ _. skip _ _ λ _. skip _ _ λ _. skip _ _ λ _. skip _ _ λ _. then_refused _ _ h

  pub dp_refused : line_at group 7 "dp" (or_missing number) ≡ refused 1 → site_text_of group ≡ refused 1
  unfolding site_text_of line_at
  dp_refused h =
      skip _ _ λ _. skip _ _ λ _. skip _ _ λ _. skip _ _ λ _. skip _ _ λ _. skip _ _ λ _. skip _ _ λ _. then_refused _ _ h

  pub mindp_refused : line_at group 8 "mindp" (or_missing number) ≡ refused 1 → site_text_of group ≡ refused 1
  unfolding site_text_of line_at
  mindp_refused h =
      skip _ _ λ _. skip _ _ λ _. skip _ _ λ _. skip _ _ λ _. skip _ _ λ _. skip _ _ λ _. skip _ _ λ _. skip _ _ λ _. then_refused _ _ h

  pub ad_refused : line_at group 9 "ad" (or_missing number_list) ≡ refused 1 → site_text_of group ≡ refused 1
  unfolding site_text_of line_at
  ad_refused h =
      skip _ _ λ _. skip _ _ λ _. skip _ _ λ _. skip _ _ λ _. skip _ _ λ _. skip _ _ λ _. skip _ _ λ _. skip _ _ λ _. skip _ _ λ _.
      then_refused _ _ h

  pub pl_refused : line_at group 10 "pl" (or_missing number_list) ≡ refused 1 → site_text_of group ≡ refused 1
  unfolding site_text_of line_at
  pl_refused h =
      skip _ _ λ _. skip _ _ λ _. skip _ _ λ _. skip _ _ λ _. skip _ _ λ _. skip _ _ λ _. skip _ _ λ _. skip _ _ λ _. skip _ _ λ _.
      skip _ _ λ _. then_refused _ _ h

-- ---- the first four lines

module _ (s : List ℕ) (at : ℕ) where
  pub site_wrong : LineReads s at (key_of "site") number unread → PlaceRead s at std.None
  unfolding PlaceRead site_lines
  site_wrong l = site_refused _ (line_unread (behind_start s at) "site" number 11 (omega arith) l)

  module _ (n e₀ : ℕ) (l₀ : LineReads s at (key_of "site") number (read_to n e₀)) where
    b₁ : Behind s at 1 (e₀ + 1)
    b₁ = behind_next (behind_start s at) "site" number n e₀ l₀

    pub contig_wrong : LineReads s (e₀ + 1) (key_of "contig") name unread → PlaceRead s at std.None
    unfolding PlaceRead site_lines
    contig_wrong l = contig_refused _ (line_unread b₁ "contig" name 11 (omega arith) l)

    module _ (contig : Part) (l₁ : LineReads s (e₀ + 1) (key_of "contig") name (read_to (bytes_of s contig) contig.end))
        (ordered : contig.at ≤ contig.end) where
      b₂ : Behind s at 2 (contig.end + 1)
      b₂ = behind_next b₁ "contig" name _ contig.end l₁

      pub start_wrong : LineReads s (contig.end + 1) (key_of "start") number unread → PlaceRead s at std.None
      unfolding PlaceRead site_lines
      start_wrong l = start_refused _ (line_unread b₂ "start" number 11 (omega arith) l)

      module _ (from e₂ : ℕ) (l₂ : LineReads s (contig.end + 1) (key_of "start") number (read_to from e₂)) where
        b₃ : Behind s at 3 (e₂ + 1)
        b₃ = behind_next b₂ "start" number _ e₂ l₂

        pub end_wrong : LineReads s (e₂ + 1) (key_of "end") number unread → PlaceRead s at std.None
        unfolding PlaceRead site_lines
        end_wrong l = end_refused _ (line_unread b₃ "end" number 11 (omega arith) l)

        pub place_read : (to e₃ : ℕ) → LineReads s (e₂ + 1) (key_of "end") number (read_to to e₃)
            → {sample : SampleIndex} {start end : GenomePosition} → sample.0 ≡ n → start.0 ≡ from → end.0 ≡ to
            → PlaceRead s at (std.Some (record { sample = sample; contig = contig; start = start; end = end; next = e₃ + 1 }))
        unfolding PlaceRead site_lines
        place_read to e₃ l₃ same_sample same_start same_end = record {
          sample = rw same_sample (line_read (behind_start s at) "site" number 11 (omega arith) n e₀ l₀);
          contig = line_read b₁ "contig" name 11 (omega arith) _ contig.end l₁;
          start = rw same_start (line_read b₂ "start" number 11 (omega arith) from e₂ l₂);
          end = rw same_end (line_read b₃ "end" number 11 (omega arith) to e₃ l₃);
          ordered = ordered;
          behind = behind_next b₃ "end" number _ e₃ l₃;
          within = let h = line_within s (e₂ + 1) (key_of "end") number to e₃ l₃ in omega arith;
        }

-- ---- the alleles' lines

module _ (s : List ℕ) (at : ℕ) where
  pub ref_wrong : LineReads s at (key_of "ref") some unread → AlleleLinesRead s at std.None
  unfolding AlleleLinesRead site_lines
  ref_wrong l first b = ref_refused _ (line_unread b "ref" some 11 (omega arith) l)

  module _ (refs : Part) (l₄ : LineReads s at (key_of "ref") some (read_to (bytes_of s refs) refs.end)) (ordered : refs.at ≤ refs.end) where
    pub alt_wrong : LineReads s (refs.end + 1) (key_of "alt") some unread → AlleleLinesRead s at std.None
    unfolding AlleleLinesRead site_lines
    alt_wrong l first b = alt_refused _ (line_unread (behind_next b "ref" some _ refs.end l₄) "alt" some 11 (omega arith) l)

    pub alleles_read : (alts : Part) → LineReads s (refs.end + 1) (key_of "alt") some (read_to (bytes_of s alts) alts.end) → alts.at ≤ alts.end
        → AlleleLinesRead s at (std.Some (record { refs = refs; alts = alts; next = alts.end + 1 }))
    unfolding AlleleLinesRead site_lines
    alleles_read alts l₅ ordered₅ first b =
        let b₅ = behind_next b "ref" some _ refs.end l₄ in
        record {
          ref = line_read b "ref" some 11 (omega arith) _ refs.end l₄;
          alt = line_read b₅ "alt" some 11 (omega arith) _ alts.end l₅;
          ref_ordered = ordered;
          alt_ordered = ordered₅;
          behind = behind_next b₅ "alt" some _ alts.end l₅;
          within = let h = line_within s (refs.end + 1) (key_of "alt") some _ alts.end l₅ in omega arith;
        }

-- ---- the values' lines

module _ (s : List ℕ) (at : ℕ) where
  pub gq_wrong : LineReads s at (key_of "gq") (or_missing number) unread → ValuesRead s at std.None
  unfolding ValuesRead site_lines
  gq_wrong l first b = gq_refused _ (line_unread b "gq" (or_missing number) 11 (omega arith) l)

  module _ (gq : std.Option ℕ) (e₆ : ℕ) (l₆ : LineReads s at (key_of "gq") (or_missing number) (read_to (option_of gq) e₆)) where
    b₇ : (first : ℕ) → Behind s first 6 at → Behind s first 7 (e₆ + 1)
    b₇ first b = behind_next b "gq" (or_missing number) _ e₆ l₆

    pub dp_wrong : LineReads s (e₆ + 1) (key_of "dp") (or_missing number) unread → ValuesRead s at std.None
    unfolding ValuesRead site_lines
    dp_wrong l first b = dp_refused _ (line_unread (b₇ first b) "dp" (or_missing number) 11 (omega arith) l)

    module _ (dp : std.Option ℕ) (e₇ : ℕ) (l₇ : LineReads s (e₆ + 1) (key_of "dp") (or_missing number) (read_to (option_of dp) e₇)) where
      b₈ : (first : ℕ) → Behind s first 6 at → Behind s first 8 (e₇ + 1)
      b₈ first b = behind_next (b₇ first b) "dp" (or_missing number) _ e₇ l₇

      pub mindp_wrong : LineReads s (e₇ + 1) (key_of "mindp") (or_missing number) unread → ValuesRead s at std.None
      unfolding ValuesRead site_lines
      mindp_wrong l first b = mindp_refused _ (line_unread (b₈ first b) "mindp" (or_missing number) 11 (omega arith) l)

      module _ (mindp : std.Option ℕ) (e₈ : ℕ) (l₈ : LineReads s (e₇ + 1) (key_of "mindp") (or_missing number) (read_to (option_of mindp) e₈)) where
        b₉ : (first : ℕ) → Behind s first 6 at → Behind s first 9 (e₈ + 1)
        b₉ first b = behind_next (b₈ first b) "mindp" (or_missing number) _ e₈ l₈

        pub ad_wrong : LineReads s (e₈ + 1) (key_of "ad") (or_missing number_list) unread → ValuesRead s at std.None
        unfolding ValuesRead site_lines
        ad_wrong l first b = ad_refused _ (line_unread (b₉ first b) "ad" (or_missing number_list) 11 (omega arith) l)

        module _ (ad : NumbersPart) (l₉ : LineReads s (e₈ + 1) (key_of "ad") (or_missing number_list) (read_to (numbers_of s ad) ad.end))
            (count₉ : Counted s ad) where
          b₁₀ : (first : ℕ) → Behind s first 6 at → Behind s first 10 (ad.end + 1)
          b₁₀ first b = behind_next (b₉ first b) "ad" (or_missing number_list) _ ad.end l₉

          pub pl_wrong : LineReads s (ad.end + 1) (key_of "pl") (or_missing number_list) unread → ValuesRead s at std.None
          unfolding ValuesRead site_lines
          pl_wrong l first b = pl_refused _ (line_unread (b₁₀ first b) "pl" (or_missing number_list) 11 (omega arith) l)

          pub values_read : (pl : NumbersPart)
              → LineReads s (ad.end + 1) (key_of "pl") (or_missing number_list) (read_to (numbers_of s pl) pl.end) → Counted s pl
              → ValuesRead s at (std.Some (record { gq = gq; dp = dp; mindp = mindp; ad = ad; pl = pl; next = pl.end + 1 }))
          unfolding ValuesRead site_lines LineReads
          values_read pl l₁₀ count₁₀ first b = record {
            gq = line_read b "gq" (or_missing number) 11 (omega arith) _ e₆ l₆;
            dp = line_read (b₇ first b) "dp" (or_missing number) 11 (omega arith) _ e₇ l₇;
            mindp = line_read (b₈ first b) "mindp" (or_missing number) 11 (omega arith) _ e₈ l₈;
            ad = line_read (b₉ first b) "ad" (or_missing number_list) 11 (omega arith) _ ad.end l₉;
            pl = line_read (b₁₀ first b) "pl" (or_missing number_list) 11 (omega arith) _ pl.end l₁₀;
            small = record { gq = is_small _ _ _ _ _ l₆; dp = is_small _ _ _ _ _ l₇; mindp = is_small _ _ _ _ _ l₈ };
            ad_count = count₉;
            pl_count = count₁₀;
            behind = behind_next (b₁₀ first b) "pl" (or_missing number_list) _ pl.end l₁₀;
            forward = omega (arith, (b₁₀ first b).forward, l₁₀.forward);
            within = let h = line_within s (ad.end + 1) (key_of "pl") (or_missing number_list) _ pl.end l₁₀ in omega arith;
          }

-- ---- all eleven

pub text_read : (s : List ℕ) (at : ℕ) (p : SitePlace) (a : SiteAlleles) (v : SiteValues)
    → PlaceLines s at p → AlleleLines s at a → ValueLines s at v → TextRead s at (std.Some (record { place = p; alleles = a; values = v }))
unfolding TextRead site_text_of
text_read s at p a v lp la lv = record {
  text = then _ _ lp.sample (then _ _ lp.contig (then _ _ lp.start (then _ _ lp.end (then _ _ la.ref (then _ _ la.alt
      (then _ _ lv.gq (then _ _ lv.dp (then _ _ lv.mindp (then _ _ lv.ad (then _ _ lv.pl refl))))))))));
  place = lp;
  alleles = la;
  values = lv;
}

-- ---- parts

pub no_list : number_list [] ≡ none
unfolding number_list fields_of split_where all_some number only_if all_of no_leading_zero
no_list = refl

-- a missing list is an empty part
pub part_missing : (s : List ℕ) (e : ℕ) → number_list (between s e e) ≡ none
part_missing s e = rw (between_none s e e (omega arith)) no_list

-- a list's line, by where its numbers begin: behind themselves if it is missing
pub part_read : (s : List ℕ) (at : ℕ) (key before after : List ℕ) (l : std.Option ListStart) (e : ℕ)
    → LineReads s at key (or_missing number_list) (list_found s (std.Some (l, e))) × list_count s (std.Some (l, e))
    × ListStored s at key before after (std.Some (l, e)) → (start : ListStart) → start ≡ unwrap_or l (record { at = e; count = 0 })
    → LineReads s at key (or_missing number_list) (read_to (number_list (between s start.at e)) e)
    × (start.count ≡ length (Option.get_or (number_list (between s start.at e)) []))
    × (after ≡ sets before 0 (Option.get_or (number_list (between s start.at e)) []))
part_read s at key before after std.None e l start h =
    rw h (rw (part_missing s e) l.0, rw (part_missing s e), rw (part_missing s e) l.2)
part_read s at key before after (std.Some list) e l start h = rw h (rw l.1.1 l.0, rw l.1.1 l.1.2, l.2)

-- a slice that was not written to, or that a list's numbers stand in
pub none_stored : (l : List ℕ) → SomeStored l l
none_stored l = record { numbers = []; stored = refl }

pub list_stored : (s : List ℕ) (n : NumbersPart) (before after : List ℕ) → Stored s n before after → SomeStored before after
list_stored s n before after h = record { numbers = Option.get_or (numbers_of s n) []; stored = h }
