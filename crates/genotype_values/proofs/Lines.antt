-- The GT line and the lines of a sample, laid one behind the other.
-- Assumes nothing.
use Prim.Native.Nat.{◌+◌, ℕ}
use lib.ListN.{length, length-append}
use mathlib.Core.List.{List, [], ◌++◌, ◌∷◌}
use mathlib.Core.Option.{Option}
use mathlib.Core.Path.{◌∙◌, ◌≡◌, ap, refl}
use native.Mathlib.Omega.{arith}
use Rattle.definitions.specs.Bytes.{joined_by, line_feed, slash, text}
use Rattle.definitions.specs.Lines.{key_of, line}
use Rattle.definitions.specs.Numbers.{decimal, decimals, written_or_missing}
use Rattle.definitions.specs.Printed.{printed_sample_data, written_genotype}
use Rattle.kv_write.proofs.Laying.{laid_append}
use Rattle.kv_write.specs.Keyed.{keyed}
use Rattle.kv_write.specs.Laid.{Laid}
use Rattle.genotype_values.specs.Values.{genotype_line, least_pair, present, said_of}

pub genotype_line_length : (low high : ℕ) → length (genotype_line low high) ≡ 5 + length (decimal low) + length (decimal high)
unfolding line key_of text written_genotype joined_by slash line_feed
genotype_line_length low high = simp length-append (omega arith)

-- the six lines of a sample, each as its writer's contract has it
abbrev pub gt_line : List ℕ → List ℕ
gt_line pl = line "gt" (written_or_missing written_genotype (least_pair pl))

abbrev pub gq_line : Option ℕ → List ℕ
gq_line gq = keyed (103 ∷ 113 ∷ 61 ∷ []) (written_or_missing decimal gq)

abbrev pub dp_line : Option ℕ → List ℕ
dp_line dp = keyed (100 ∷ 112 ∷ 61 ∷ []) (written_or_missing decimal dp)

abbrev pub min_dp_line : Option ℕ → List ℕ
min_dp_line mindp = keyed (109 ∷ 105 ∷ 110 ∷ 100 ∷ 112 ∷ 61 ∷ []) (written_or_missing decimal mindp)

abbrev pub ad_line : List ℕ → List ℕ
ad_line ad = keyed (97 ∷ 100 ∷ 61 ∷ []) (written_or_missing decimals (present ad))

abbrev pub pl_line : List ℕ → List ℕ
pl_line pl = keyed (112 ∷ 108 ∷ 61 ∷ []) (written_or_missing decimals (present pl))

said_lines : (gq dp mindp : Option ℕ) (ad pl : List ℕ)
    → printed_sample_data (said_of gq dp mindp ad pl) ≡ gt_line pl ++ gq_line gq ++ dp_line dp ++ min_dp_line mindp ++ ad_line ad ++ pl_line pl
unfolding printed_sample_data said_of line key_of text
said_lines gq dp mindp ad pl = refl

lengths : (f g a b c d : List ℕ) → length (f ++ g ++ a ++ b ++ c ++ d) ≡ length f + length g + length a + length b + length c + length d
lengths f g a b c d = simp length-append (omega arith)

pub said_length : (gq dp mindp : Option ℕ) (ad pl : List ℕ)
    → length (printed_sample_data (said_of gq dp mindp ad pl))
    ≡ length (gt_line pl) + length (gq_line gq) + length (dp_line dp) + length (min_dp_line mindp) + length (ad_line ad) + length (pl_line pl)
said_length gq dp mindp ad pl =
    ap length (said_lines gq dp mindp ad pl) ∙ lengths (gt_line pl) (gq_line gq) (dp_line dp) (min_dp_line mindp) (ad_line ad) (pl_line pl)

module _ {d d1 d2 d3 d4 d5 : List ℕ} {at at1 at2 at3 at4 at5 : ℕ} where
  -- `gt=`, the lower allele, `/`, the higher and LF
  pub pair_laid : (low high : ℕ) → Laid d at (103 ∷ 116 ∷ 61 ∷ []) d1 at1 → Laid d1 at1 (decimal low) d2 at2 → Laid d2 at2 (47 ∷ []) d3 at3
      → Laid d3 at3 (decimal high) d4 at4 → Laid d4 at4 (10 ∷ []) d5 at5 → Laid d at (genotype_line low high) d5 at5
  unfolding line key_of text written_genotype joined_by slash line_feed
  pair_laid low high key first slash second end = laid_append (laid_append key (laid_append first (laid_append slash second))) end

  -- GT, GQ, DP, MIN_DP, AD and PL
  pub said_laid : {d6 : List ℕ} {at6 : ℕ} (gq dp mindp : Option ℕ) (ad pl : List ℕ) → Laid d at (gt_line pl) d1 at1 → Laid d1 at1 (gq_line gq) d2 at2
      → Laid d2 at2 (dp_line dp) d3 at3 → Laid d3 at3 (min_dp_line mindp) d4 at4 → Laid d4 at4 (ad_line ad) d5 at5 → Laid d5 at5 (pl_line pl) d6 at6
      → Laid d at (printed_sample_data (said_of gq dp mindp ad pl)) d6 at6
  said_laid gq dp mindp ad pl l1 l2 l3 l4 l5 l6 =
      rw (said_lines gq dp mindp ad pl) (laid_append (laid_append (laid_append (laid_append (laid_append l1 l2) l3) l4) l5) l6)
