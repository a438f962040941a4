-- The lines of a record before its samples', laid one behind the other; and a whole record by them.
use Prim.Native.Nat.{◌+◌, ℕ}
use lib.ListN.{length, length-append}
use mathlib.Core.List.{List, [], ◌++◌, ◌∷◌, flat_map}
use mathlib.Core.Path.{◌∙◌, ◌≡◌, ap, refl, sym}
use Rattle.definitions.specs.Alleles.{written_alleles}
use native.Mathlib.Omega.{arith}
use Rattle.definitions.specs.Bytes.{line_feed, text}
use Rattle.definitions.specs.Lines.{key_of, line}
use Rattle.definitions.specs.Numbers.{decimal, written_or_missing}
use Rattle.definitions.specs.Printed.{printed_record, printed_sample_data}
use Rattle.definitions.specs.Records.{Record}
use Rattle.kv_write.proofs.Laying.{laid_append}
use Rattle.kv_write.specs.Keyed.{keyed}
use Rattle.kv_write.specs.Laid.{Laid}
use Rattle.record_lines.specs.Head.{end_from, head_of, place_of}

-- a record is these lines and those of its samples
pub printed_record_lem : (r : Record) {contig ref alts : List ℕ} {first : ℕ} (last : ℕ) → r.contig ≡ contig → r.pos ≡ first
    → r.end ≡ end_from first last → r.alleles.ref ≡ ref → written_alleles r.alleles.alts ≡ alts
    → printed_record r ≡ head_of contig first last ref alts ++ flat_map printed_sample_data r.sample_data
unfolding printed_record head_of
printed_record_lem r last c p e f a = rw (c, p, e, f, a)

-- the five lines, each as its writer's contract has it
abbrev pub contig_line : List ℕ → List ℕ
contig_line = keyed (99 ∷ 111 ∷ 110 ∷ 116 ∷ 105 ∷ 103 ∷ 61 ∷ [])

abbrev pub pos_line : ℕ → List ℕ
pos_line first = keyed (112 ∷ 111 ∷ 115 ∷ 61 ∷ []) (decimal first)

abbrev pub end_line : ℕ → ℕ → List ℕ
end_line first last = keyed (101 ∷ 110 ∷ 100 ∷ 61 ∷ []) (written_or_missing decimal (end_from first last))

abbrev pub ref_line : List ℕ → List ℕ
ref_line = keyed (114 ∷ 101 ∷ 102 ∷ 61 ∷ [])

abbrev pub alt_line : List ℕ → List ℕ
alt_line = keyed (97 ∷ 108 ∷ 116 ∷ 61 ∷ [])

lengths : (a b c d e : List ℕ) → length (a ++ b ++ c ++ d ++ e) ≡ length a + length b + length c + length d + length e
lengths a b c d e = simp length-append

three : (a b c : List ℕ) → length (a ++ b ++ c) ≡ length a + length b + length c
three a b c = simp length-append

-- the first three, which say where the record stands; and REF's
module _ (contig : List ℕ) (first last : ℕ) where
  place_lines : place_of contig first last ≡ contig_line contig ++ pos_line first ++ end_line first last
  unfolding line key_of text
  place_lines = refl

  pub place_length : length (place_of contig first last) ≡ length (contig_line contig) + length (pos_line first) + length (end_line first last)
  place_length = ap length place_lines ∙ three (contig_line contig) (pos_line first) (end_line first last)

  pub place_laid : {d d1 d2 d3 : List ℕ} {at at1 at2 at3 : ℕ} → Laid d at (contig_line contig) d1 at1
      → Laid d1 at1 (pos_line first) d2 at2 → Laid d2 at2 (end_line first last) d3 at3 → Laid d at (place_of contig first last) d3 at3
  place_laid l1 l2 l3 = rw place_lines (laid_append (laid_append l1 l2) l3)

module _ (ref : List ℕ) where
  pub ref_line_lem : line "ref" ref ≡ ref_line ref
  unfolding line key_of text
  ref_line_lem = refl

  pub ref_line_length : length (line "ref" ref) ≡ 5 + length ref
  unfolding line key_of text line_feed
  ref_line_length = simp length-append (omega arith)

  pub ref_line_laid : {d d1 d2 d3 : List ℕ} {at at1 at2 at3 : ℕ} → Laid d at (114 ∷ 101 ∷ 102 ∷ 61 ∷ []) d1 at1 → Laid d1 at1 ref d2 at2
      → Laid d2 at2 (10 ∷ []) d3 at3 → Laid d at (line "ref" ref) d3 at3
  unfolding line key_of text line_feed
  ref_line_laid key value end = laid_append (laid_append key value) end

module _ (contig : List ℕ) (first last : ℕ) (ref alts : List ℕ) where
  head_lines : head_of contig first last ref alts ≡ contig_line contig ++ pos_line first ++ end_line first last ++ ref_line ref ++ alt_line alts
  unfolding head_of line key_of text
  head_lines = refl

  pub head_length : length (head_of contig first last ref alts)
      ≡ length (contig_line contig) + length (pos_line first) + length (end_line first last) + length (ref_line ref) + length (alt_line alts)
  head_length = ap length head_lines ∙ lengths (contig_line contig) (pos_line first) (end_line first last) (ref_line ref) (alt_line alts)

  -- by the lines of its place
  pub head_parts : length (head_of contig first last ref alts) ≡ length (place_of contig first last) + length (ref_line ref) + length (alt_line alts)
  head_parts =
      head_length ∙ ap (λ (n : ℕ). n + length (ref_line ref) + length (alt_line alts)) (sym (place_length contig first last))

  pub head_laid : {d d1 d2 d3 : List ℕ} {at at1 at2 at3 : ℕ} → Laid d at (place_of contig first last) d1 at1
      → Laid d1 at1 (ref_line ref) d2 at2 → Laid d2 at2 (alt_line alts) d3 at3 → Laid d at (head_of contig first last ref alts) d3 at3
  head_laid l r a = rw head_lines (laid_append (laid_append (rw (place_lines contig first last) at l) r) a)
