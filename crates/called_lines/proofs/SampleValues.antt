-- What is said of a sample without an allele: its lines one behind the other, and that they are those of `called_data`.
-- Assumes nothing.
use Prim.Native.Nat.{◌+◌, ◌-◌, ◌<◌, ◌≤◌, suc, zero, ℕ}
use lib.ListN.{drop, length, length-append, length-drop, length-take, take}
use mathlib.Core.List.{List, [], ◌++◌, ◌∷◌}
use mathlib.Core.Option.{Option, map}
use mathlib.Core.Path.{◌∙◌, ◌≡◌, ap, refl, sym}
use native.Mathlib.Omega.{arith}
use Rattle.definitions.specs.Bytes.{text}
use Rattle.definitions.specs.CalledGenotypes.{gq_from_pl, pl_without_allele}
use Rattle.definitions.specs.CalledList.{called_data, without_index}
use Rattle.definitions.specs.Lines.{key_of, line}
use Rattle.definitions.specs.Lists.{only_if}
use Rattle.definitions.specs.Printed.{printed_values}
use Rattle.genotype_values.proofs.Best.{present_some}
use Rattle.genotype_values.proofs.Lines.{ad_line, dp_line, gq_line, pl_line}
use Rattle.genotype_values.proofs.Mapped.{count_is, product_bound}
use Rattle.genotype_values.specs.Remapped.{of_present}
use Rattle.genotype_values.specs.Values.{present}
use Rattle.kv_write.proofs.Laying.{laid_append}
use Rattle.kv_write.specs.Laid.{Laid}
use Rattle.laws.proofs.Every.{IfThere}
use Rattle.laws.proofs.Genotypes.{genotype_count_some}
use Rattle.called_lines.specs.SampleValues.{called_values, own_values}
use Rattle.called_genotypes.proofs.Folded.{without_length}

-- ---- the lines

-- that of GQ
abbrev pub pl_gq : List ℕ → Option ℕ
pl_gq pl = map gq_from_pl (present pl)

called_lines_lem : (dp : Option ℕ) (ad pl : List ℕ)
    → printed_values (called_values dp ad pl) ≡ gq_line (pl_gq pl) ++ dp_line dp ++ ad_line ad ++ pl_line pl
unfolding printed_values called_values line key_of text
called_lines_lem dp ad pl = refl

lengths : (a b c d : List ℕ) → length (a ++ b ++ c ++ d) ≡ length a + length b + length c + length d
lengths a b c d = simp length-append

pub called_length : (dp : Option ℕ) (ad pl : List ℕ)
    → length (printed_values (called_values dp ad pl))
    ≡ length (gq_line (pl_gq pl)) + length (dp_line dp) + length (ad_line ad) + length (pl_line pl)
called_length dp ad pl =
    ap length (called_lines_lem dp ad pl) ∙ lengths (gq_line (pl_gq pl)) (dp_line dp) (ad_line ad) (pl_line pl)

pub called_laid : (dp : Option ℕ) (ad pl : List ℕ) {d d1 d2 d3 d4 : List ℕ} {at at1 at2 at3 at4 : ℕ}
    → Laid d at (gq_line (pl_gq pl)) d1 at1 → Laid d1 at1 (dp_line dp) d2 at2 → Laid d2 at2 (ad_line ad) d3 at3
    → Laid d3 at3 (pl_line pl) d4 at4 → Laid d at (printed_values (called_values dp ad pl)) d4 at4
called_laid dp ad pl l1 l2 l3 l4 = rw (called_lines_lem dp ad pl) (laid_append (laid_append (laid_append l1 l2) l3) l4)

-- ---- values without x

-- as many as the alleles besides x
pub without_index_length : (x : ℕ) (ad : List ℕ) → x < length ad → suc (length (without_index x ad)) ≡ length ad
unfolding without_index
without_index_length x ad h =
    omega (arith, length-append (take x ad) (drop (suc x) ad), length-take x ad, length-drop (suc x) ad)

without_none : (x : ℕ) → without_index {A = ℕ} x [] ≡ []
unfolding without_index
without_none zero = refl
without_none (suc x) = refl

module _ (n x : ℕ) (two : 2 ≤ n) (few : n ≤ 16) (below : x < n) where
  pl_some : (pl : List ℕ) → 0 < length (pl_without_allele n x pl)
  pl_some pl = omega (arith, without_length n x pl below, genotype_count_some (n - 1) (omega arith))

  said_pl : (pl : List ℕ) → present (of_present (pl_without_allele n x) pl) ≡ map (pl_without_allele n x) (present pl)
  unfolding of_present only_if
  said_pl [] = refl
  said_pl (p ∷ pl) =
      present_some (pl_without_allele n x (p ∷ pl)) (pl_some (p ∷ pl))
      ∙ ap (map (pl_without_allele n x)) (sym (present_some (p ∷ pl) (omega arith)))

  said_ad : (ad : List ℕ) → IfThere (λ l. length l ≡ n) (present ad)
      → present (without_index x ad) ≡ map (without_index x) (present ad)
  unfolding only_if
  said_ad [] h = rw (without_none x)
  said_ad (a ∷ ad) h =
      let there = present_some (a ∷ ad) (omega arith) in
      let long : length (a ∷ ad) ≡ n = rw there at h in
      present_some (without_index x (a ∷ ad)) (omega (arith, without_index_length x (a ∷ ad) (omega arith)))
      ∙ ap (map (without_index x)) (sym there)

  -- how many fit the arrays
  pub few_pl : (pl : List ℕ) → length (of_present (pl_without_allele n x) pl) ≤ 136
  unfolding of_present
  few_pl [] = omega arith
  few_pl (p ∷ pl) = omega (arith, without_length n x (p ∷ pl) below, count_is (n - 1), product_bound (n - 1) (omega arith))

  pub few_ad : (ad : List ℕ) → IfThere (λ l. length l ≡ n) (present ad) → length (without_index x ad) ≤ 16
  unfolding only_if
  few_ad [] h = rw (without_none x) (omega arith)
  few_ad (a ∷ ad) h =
      let long : length (a ∷ ad) ≡ n = rw (present_some (a ∷ ad) (omega arith)) at h in
      omega (arith, without_index_length x (a ∷ ad) (omega arith))

  said : (dp : Option ℕ) (ad pl : List ℕ) → IfThere (λ l. length l ≡ n) (present ad)
      → called_values dp (without_index x ad) (of_present (pl_without_allele n x) pl) ≡ called_data n x (own_values dp ad pl)
  unfolding called_values called_data own_values
  said dp ad pl h = rw (said_pl pl, said_ad ad h)

  -- the lines of the values that stand at the fronts of two arrays
  pub fronts_printed : (dp : Option ℕ) (ad pl : List ℕ) {ads pls : List ℕ} → IfThere (λ l. length l ≡ n) (present ad)
      → ads ≡ without_index x ad → pls ≡ of_present (pl_without_allele n x) pl
      → printed_values (called_values dp ads pls) ≡ printed_values (called_data n x (own_values dp ad pl))
  fronts_printed dp ad pl h e f = rw (e, f, said dp ad pl h)
